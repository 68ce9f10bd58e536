-- A spelling that does not fit is not empty.
use Rattle.std.proofs.Common.{◌≢◌, ℕ, List, [], length, Vec, subst, arith}
use Rattle.tn_nvt.specs.{Room.LacksRoom, Spelling.spells, declared.items.Item.Item}

fits_none : {Z : Type 0} (out : Vec ℕ Z) → LacksRoom out 0 → ⊥
fits_none out lacks = omega (arith, out.ok.1, lacks)

pub lacks_bytes : {Z : Type 0} (out : Vec ℕ Z) (bytes : List ℕ) → LacksRoom out (length bytes) → bytes ≢ []
lacks_bytes out bytes lacks none = fits_none out (subst (λ (xs : List ℕ). LacksRoom out (length xs)) none lacks)

pub lacks_items : {Z : Type 0} (out : Vec ℕ Z) (items : List Item) → LacksRoom out (length (spells items)) → items ≢ []
lacks_items out items lacks none = fits_none out (subst (λ (xs : List Item). LacksRoom out (length (spells xs))) none lacks)
