-- The first items of a list, which are taken one after another.
use Rattle.std.proofs.Common.{◌≡◌, ℕ, ◌<◌, zero, suc, Some, None, List, [], ◌∷◌, ◌++◌, length, take, drop, slice_get, refl, ap, arith}

module _ {X : Type 0} where
  pub take-suc : (items : List X) (i : ℕ) (x : X) → slice_get (drop i items) 0 ≡ Some x → take (suc i) items ≡ take i items ++ x ∷ []
  take-suc [] zero x e = cc
  take-suc [] (suc i) x e = cc
  take-suc (y ∷ ys) zero x e = let same : y ≡ x = cc in ap (λ z. z ∷ []) same
  take-suc (y ∷ ys) (suc i) x e = ap (λ zs. y ∷ zs) (take-suc ys i x e)

  pub drop-suc : (items : List X) (i : ℕ) → drop 1 (drop i items) ≡ drop (suc i) items
  drop-suc [] zero = refl
  drop-suc [] (suc i) = refl
  drop-suc (y ∷ ys) zero = refl
  drop-suc (y ∷ ys) (suc i) = drop-suc ys i

  pub one_left : (items : List X) (i : ℕ) → i < length items → slice_get (drop i items) 0 ≡ None → ⊥
  one_left [] zero within e = omega (arith, within)
  one_left [] (suc i) within e = omega (arith, within)
  one_left (y ∷ ys) zero within e = cc
  one_left (y ∷ ys) (suc i) within e = one_left ys i (omega (arith, within)) e
