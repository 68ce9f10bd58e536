-- The last byte of a line.
use Rattle.std.proofs.Common.{◌≡◌, ℕ, ◌==◌, List, [], ◌∷◌, ◌++◌, refl, ap, if◌then◌else◌}
use Rattle.tn_lines.specs.{LineEnds.{end_bytes, line_said}, declared.line_ends.LineEnd.LineEnd}

pub said_last : (line_end : LineEnd) (front : List ℕ) (last : ℕ)
    → line_said line_end (front ++ last ∷ []) ≡ front ++ (if last == 10 then end_bytes line_end else last ∷ [])
unfolding line_said
said_last line_end [] last = refl
said_last line_end (byte ∷ []) last = refl
said_last line_end (byte ∷ next ∷ front) last = ap (λ (l : List ℕ). byte ∷ l) (said_last line_end (next ∷ front) last)
