-- A line on its way to a service, which ends there by the line end that was chosen.
use Rattle.std.specs.Prelude.{ℕ, ◌==◌, List, [], ◌∷◌, if◌then◌else◌}
use Rattle.tn_lines.specs.declared.line_ends.LineEnd.{LineEnd, TheVariants.{CrLf, Lf, Cr}}

-- the bytes of a line end
abbrev pub end_bytes : LineEnd → List ℕ
end_bytes CrLf = 13 ∷ 10 ∷ []
end_bytes Lf = 10 ∷ []
end_bytes Cr = 13 ∷ []

-- the bytes, with the line end in place of the line feed that they end with, if they do
unfoldable pub line_said : LineEnd → List ℕ → List ℕ
line_said line_end [] = []
line_said line_end (byte ∷ []) = if byte == 10 then end_bytes line_end else byte ∷ []
line_said line_end (byte ∷ next ∷ bytes) = byte ∷ line_said line_end (next ∷ bytes)
