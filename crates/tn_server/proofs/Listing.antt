-- Lists of local characters that a server reads and answers.
use Rattle.std.proofs.Common.{◌≡◌, ◌≢◌, true, List, [], ◌∷◌, length, refl}
use Rattle.tn_codes.specs.declared.triples.Triple.{Triple}
use Rattle.tn_discipline.specs.Characters.{Characters}
use Rattle.tn_linemode.specs.Exchange.{announcement, server_is_asked}
use Rattle.tn_server.specs.Replies.{table_items}

pub length-announcement : (c : Characters) → length (announcement c) ≡ 8
unfolding announcement
length-announcement c = refl

-- a list that asks for the table is not empty
pub asked_some : (triples : List Triple) → server_is_asked triples ≡ true → triples ≢ []
unfolding server_is_asked
asked_some [] e = absurd (cc)
asked_some (t ∷ ts) e = λ none. cc

-- the whole table is something
pub table_some : (c : Characters) → table_items true c ≢ []
unfolding announcement
table_some c = λ none. cc
