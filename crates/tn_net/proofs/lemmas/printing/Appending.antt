-- Text that is appended in steps.
use Rattle.std.proofs.Common.{◌≡◌, ℕ, ◌+◌, ◌<◌, List, ◌++◌, length, take, get_or, flat_map, sym, ap, ◌∙◌, append_assoc}
use Rattle.std.proofs.lemmas.List.{take_more, flat_map_more}

-- bytes that are appended to a list that was appended to before
pub behind : (old first rest between new : List ℕ) → between ≡ old ++ first → new ≡ between ++ rest → new ≡ old ++ (first ++ rest)
behind old first rest between new e then =
    then ∙ ap (λ (xs : List ℕ). xs ++ rest) e ∙ append_assoc old first rest

-- the text of one more
pub one_more : {X : Type 0} (f : X → List ℕ) (old between new : List ℕ) (all : List X) (i : ℕ) (d : X) → i < length all
    → between ≡ old ++ flat_map f (take i all) → new ≡ between ++ f (get_or all i d) → new ≡ old ++ flat_map f (take (i + 1) all)
one_more {X} f old between new all i d within e then =
    then
    ∙ ap (λ (xs : List ℕ). xs ++ f (get_or all i d)) e
    ∙ flat_map_more f old (take i all) (get_or all i d)
    ∙ ap (λ (some : List X). old ++ flat_map f some) (sym (take_more all i d within))
