-- The role of each key, in a table.
use Rattle.std.specs.Prelude.{◌≡◌, ℕ, ◌<◌, List, length, get_or}
use Rattle.tn_discipline.specs.{Keys.role_of_key, declared.{termios.Settings.Settings, keys.Role.Role}}
use Rattle.tn_discipline.specs.declared.keys.Role.TheVariants.{Ordinary}

-- the table has the role of each byte
pub record Agrees (settings : Settings) (table : List Role) : Type 0 where
  pub whole : length table ≡ 256
  pub agrees : (key : ℕ) (d : Role) → key < 256 → get_or table key d ≡ role_of_key settings key

-- a key that joins the line as it is
abbrev pub IsPlain : Settings → ℕ → Type 0
IsPlain settings key = role_of_key settings key ≡ Ordinary key
