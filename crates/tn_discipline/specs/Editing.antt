-- Keys that edit a line and make no entry, and keys that close it.
use Rattle.std.specs.Prelude.{◌≡◌, ℕ, IsFalse, Option, Some, None, List, [], ◌∷◌, ◌++◌}
use Rattle.tn_discipline.specs.{HalfLine.HalfLine, Keys.{role_of_key, gives_entry}, declared.keys.Role.Role}
use Rattle.tn_discipline.specs.declared.termios.Settings.{Settings}
use Rattle.tn_discipline.specs.declared.keys.Role.TheVariants as role

-- a key that makes no entry
abbrev pub IsQuiet : Settings → ℕ → Type 0
IsQuiet settings key = IsFalse (gives_entry (role_of_key settings key))

-- the line of these parts
abbrev pub line_at : List ℕ → ℕ → ℕ → HalfLine
line_at held ahead limit = record { held = held; ahead = ahead; limit = limit }

-- the byte that a key closes a line with, if it closes it with one
abbrev pub closing_byte : Role → Option ℕ
closing_byte role.Nl = Some 10
closing_byte (role.Eol byte) = Some byte
closing_byte (role.Eol2 byte) = Some byte
closing_byte _ = None

-- a key that closes a line
abbrev pub IsClosing : Role → Type 0
IsClosing role.Nl = Unit {0}
IsClosing (role.Eol byte) = Unit {0}
IsClosing (role.Eol2 byte) = Unit {0}
IsClosing role.Eof = Unit {0}
IsClosing _ = ⊥

-- these bytes, and then one more if there is one
abbrev pub with_byte : List ℕ → Option ℕ → List ℕ
with_byte bytes None = bytes
with_byte bytes (Some byte) = bytes ++ byte ∷ []
