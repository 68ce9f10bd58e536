-- The line feed at the end of a line.
use Rattle.std.proofs.Common.{◌≡◌, ℕ, ◌<◌, ◌==◌, Bool, false, List, [], ◌∷◌, ◌++◌, length, refl, sym, ap, ◌∙◌, append-nil, arith, if◌then◌else◌}
use Rattle.tn_lines.specs.{LineEnds.{end_bytes, line_said}, declared.line_ends.LineEnd.LineEnd}

pub fed : (line_end : LineEnd) (body : List ℕ) → line_said line_end (body ++ 10 ∷ []) ≡ body ++ end_bytes line_end
unfolding line_said
fed line_end [] = refl
fed line_end (byte ∷ []) = refl
fed line_end (byte ∷ next ∷ body) = ap (λ (l : List ℕ). byte ∷ l) (fed line_end (next ∷ body))

pub not_fed : (line_end : LineEnd) (body : List ℕ) (last : ℕ) → (last == 10) ≡ false → line_said line_end (body ++ last ∷ []) ≡ body ++ last ∷ []
unfolding line_said
not_fed line_end [] last other = ap (λ (feeds : Bool). if feeds then end_bytes line_end else last ∷ []) other
not_fed line_end (byte ∷ []) last other = ap (λ (l : List ℕ). byte ∷ l) (not_fed line_end [] last other)
not_fed line_end (byte ∷ next ∷ body) last other = ap (λ (l : List ℕ). byte ∷ l) (not_fed line_end (next ∷ body) last other)

-- nothing was taken off
pub empty : (line_end : LineEnd) (old new : List ℕ) → old ≡ new ++ [] → (0 < length old → ⊥) → new ≡ line_said line_end old
unfolding line_said
empty line_end [] new is none = sym (append-nil new) ∙ sym is
empty line_end (byte ∷ old) new is none = absurd (none (omega arith))
