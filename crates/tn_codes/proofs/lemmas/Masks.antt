-- A mask without the zeros at its end is no longer than it is.
use Rattle.std.proofs.{Common.{◌≡◌, ◌≢◌, ℕ, ◌+◌, ◌≤◌, inl, inr, List, [], ◌∷◌, length, arith}, lemmas.Bool.{ne_eqb, Decides.eqb_tells}}
use Rattle.tn_codes.specs.Masks.{before, trimmed_octets}

length-before : (b : ℕ) (xs : List ℕ) → length (before b xs) ≤ length xs + 1
length-before b [] = elim (eqb_tells b 0) [
  | inl e ↦ let is : b ≡ 0 = e.1 in rw is (omega arith)
  | inr e ↦ let differs : b ≢ 0 = e.1
      in rw (ne_eqb b 0 differs) (omega arith)
]
length-before b (x ∷ xs) = omega arith

pub length-trimmed : (xs : List ℕ) → length (trimmed_octets xs) ≤ length xs
unfolding trimmed_octets
length-trimmed [] = omega arith
length-trimmed (x ∷ xs) = omega (arith, length-before x (trimmed_octets xs), length-trimmed xs)
