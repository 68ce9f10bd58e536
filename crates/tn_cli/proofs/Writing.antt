-- One write more of an output that is written in parts.
use Rattle.std.proofs.Common.{◌≡◌, ℕ, ◌+◌, ◌-◌, List, length, length-drop, arith, ◌++◌, Option, Some, None, take, drop, ap, ◌∙◌, sym, append_assoc}
use Rattle.std.proofs.{Math.Seq.take-add, lemmas.List.take_all}
use Rattle.std.specs.Io.KnownBytes.{Appends}

pub wrote_more : (old mid new : Option (List ℕ)) (output : List ℕ) (n m : ℕ) → Appends old mid (take n output) → Appends mid new (take m (drop n output))
    → Appends old new (take (n + m) output)
wrote_more None mid new output n m a b = tt
wrote_more (Some o) None new output n m a b = absurd a
wrote_more (Some o) (Some x) None output n m a b = absurd b
wrote_more (Some o) (Some x) (Some y) output n m a b =
    b ∙ ap (λ z. z ++ take m (drop n output)) a ∙ append_assoc o _ _ ∙ ap (λ z. o ++ z) (sym (take-add n m output))

-- the rest of an output, as a slice from this place to its end
pub rest_is : (output : List ℕ) (n : ℕ) → take (length output - n) (drop n output) ≡ drop n output
rest_is output n = take_all (length output - n) (drop n output) (omega (arith, length-drop n output))
