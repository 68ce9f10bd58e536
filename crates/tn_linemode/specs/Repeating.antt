-- A peer that sends back whatever it gets.
use Rattle.std.specs.Prelude.{ℕ, zero, suc, List}
use Rattle.tn_codes.specs.declared.triples.Triple.{Triple}
use Rattle.tn_discipline.specs.Characters.{Characters}
use Rattle.tn_linemode.specs.Exchange.{server_after, server_answers}

-- the triples on their way to a server once such a peer has sent this list, and then this many times the
-- server's answers
unfoldable pub repeated : ℕ → Characters → List Triple → List Triple
repeated zero c ts = ts
repeated (suc n) c ts = repeated n (server_after c ts) (server_answers c ts)
