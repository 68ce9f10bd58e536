-- The facts that differ, and the numbers that were seen.
use Rattle.std.proofs.Common.{◌≡◌, ◌≢◌, ℕ, Bool, true, false, List, sym, ◌∙◌}
use Rattle.std.specs.{Prelude.{◌↔◌, IsTrue, not, nat_eq}, Cmp.Lexicographic.{pointwise, same_text, other_text}}

-- a test of two lists shows whether they differ
pub differs : (xs ys : List ℕ) (same r : Bool) → same ≡ pointwise nat_eq xs ys → r ≡ not same → IsTrue r ↔ (xs ≢ ys)
differs xs ys true r is e = (λ t. absurd (let p = sym t ∙ e in cc), λ n. absurd (n (same_text xs ys is)))
differs xs ys false r is e = (λ t. other_text xs ys is, λ n. e)
