-- The entries that a terminal makes of typed keys.
use Rattle.std.specs.Prelude.{ℕ, List}
use Rattle.tn_discipline.specs.{Entries.{entries_of, half_of}, Keys.roles_of, declared.reads.Entry.Entry}
use Rattle.tn_discipline.specs.declared.termios.Settings.{Settings}

-- canonical input: the settings of a terminal, and how many bytes a line of it has at most, with its closing
-- byte
pub record Canon : Type 0 where
  pub settings : Settings
  pub limit : ℕ

-- the entries that typed keys give
abbrev pub typed_entries : Canon → List ℕ → List Entry
typed_entries canon keys = entries_of canon.limit (roles_of canon.settings keys)

-- the half-typed line that typed keys leave
abbrev pub typed_half : Canon → List ℕ → List ℕ
typed_half canon keys = half_of canon.limit (roles_of canon.settings keys)
