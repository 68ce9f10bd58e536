-- The last words to the peer of a server's connection are one of four.
use Rattle.std.proofs.Common.{◌≡◌, ℕ, List, Option, Some, None, inl, inr, refl, subst, sym}
use Rattle.tn_net.specs.{LastWords.{last_lines, line_of}, declared.attended.Why.{Why, TheVariants.{Closing, Idle, TooLong}}}
use Rattle.tn_cores.specs.streams.Beside.{IsOneOf}

each : (why : Option Why) → IsOneOf last_lines (line_of why)
each None = inl refl
each (Some Idle) = inr (inl refl)
each (Some TooLong) = inr (inr (inl refl))
each (Some Closing) = inr (inr (inr (inl refl)))

pub one_of : (why : Option Why) (words : List ℕ) → words ≡ line_of why → IsOneOf last_lines words
one_of why words e = subst (λ (ws : List ℕ). IsOneOf last_lines ws) (sym e) (each why)
