-- The items that were read in time are the first of those that were sent.
use Rattle.std.proofs.Common.{◌≡◌, ℕ, List, [], sym, subst}
use Rattle.std.specs.Prelude.{All}
use Rattle.tn_nvt.proofs.lemmas.Reading.{reads_on, reads_spelled, one_reading}
use Rattle.tn_nvt.specs.{Spelling.{spells, Fits}, Stream.Reading, declared.items.Item.Item, Prefixes.IsPrefixOf}
use Rattle.tn_linemode.specs.Prefixes.{IsRead}

pub heard_first : (stream : List ℕ) (xs said : List Item) → IsRead stream xs → All Fits said → IsPrefixOf stream (spells said) → IsPrefixOf xs said
heard_first stream xs said r fit p =
    let whole = subst (λ (bytes : List ℕ). Reading bytes said []) (sym p.1) (reads_spelled said fit) in
    let more = reads_on stream p.0 r.0 [] xs said r.1 whole in
    (more.0, sym more.1)

pub heard_all : (stream : List ℕ) (xs said : List Item) → IsRead stream xs → All Fits said → stream ≡ spells said → xs ≡ said
heard_all stream xs said r fit e =
    let P : List ℕ → Type 0 = λ bytes. Reading bytes xs r.0 in
    (one_reading (spells said) r.0 [] xs said (subst P e r.1) (reads_spelled said fit)).0
