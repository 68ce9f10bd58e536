-- The echo of a key, as bytes for a screen that moves to the next line by CR LF.
use Rattle.std.specs.Prelude.{◌≡◌, ◌⊎◌, ℕ, Option, Some, None, List, [], ◌∷◌, ◌++◌}
use Rattle.tn_discipline.specs.declared.echo.Symbol.{Symbol, TheVariants.{Byte, Newline}}
use Rattle.tn_c.specs.{parts.{Bytes.Gives, Spelled.{Room, IsLeft}}, declared.parts.codes.Code.Code}
use Rattle.tn_c.specs.declared.parts.codes.Code.TheVariants as code

-- the bytes that show a symbol, if there is one
abbrev pub symbol_bytes : Option Symbol → List ℕ
symbol_bytes None = []
symbol_bytes (Some (Byte byte)) = byte ∷ []
symbol_bytes (Some Newline) = 13 ∷ 10 ∷ []

-- the bytes that show a key, of its at most three symbols
abbrev pub echo_bytes : List (Option Symbol) → List ℕ
echo_bytes (a ∷ b ∷ c ∷ []) = (symbol_bytes a ++ symbol_bytes b) ++ symbol_bytes c
echo_bytes _ = []

-- The echo was given, or memory was refused.
pub record GivesEcho (echo : List (Option Symbol)) (room : Room) (answer : Code) : Type 0 where
  pub codes : (answer ≡ code.Done) ⊎ (answer ≡ code.Memory)
  pub ok : answer ≡ code.Done → Gives (echo_bytes echo) room.old_buf room.new_buf room.new_count
  pub err : answer ≡ code.Memory → IsLeft room
