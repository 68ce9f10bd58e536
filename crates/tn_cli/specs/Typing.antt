-- The lines that `tn local` prints of keys.
use Rattle.std.specs.{Prelude.{◌≡◌, ℕ, Option, List, ◌++◌}, Io.KnownBytes.Appends}
use Rattle.tn_discipline.specs.{Canon.{Canon, typed_entries}, Characters.standard_characters}
use Rattle.tn_discipline.specs.{Keys.{roles_of, standard_flags}, Limits.standard_limit}
use Rattle.tn_discipline.specs.Advancing as discipline
use Rattle.tn_cli.specs.{Printed.printed, Streams.AppendsPrefix, declared.typing.Typing.Typing}

-- a terminal with standard settings and lines of the standard limit
abbrev pub standard : Canon
standard = record {
  settings = record { flags = standard_flags; chars = standard_characters };
  limit = standard_limit;
}

-- the printed entries of keys that are typed at one such terminal
abbrev pub local_output : List ℕ → List ℕ
local_output keys = printed (typed_entries standard keys)

-- the lines of these keys were appended, if the writer's content is known
abbrev pub PrintsKeys : List ℕ → Option (List ℕ) → Option (List ℕ) → Type 0
PrintsKeys keys old new = Appends old new (local_output keys)

-- a prefix of them was appended
abbrev pub PrintsKeysPrefix : List ℕ → Option (List ℕ) → Option (List ℕ) → Type 0
PrintsKeysPrefix keys old new = AppendsPrefix old new (local_output keys)

-- the number of bytes of printed entries that are kept, and the most bytes of the line of one
abbrev pub max_printed : ℕ
max_printed = 65536

-- the most bytes of the line of an entry
abbrev pub max_entry : ℕ
max_entry = 8198

-- these keys were typed, and this much of what they print was given away before
pub record LeadsTo (keys given : List ℕ) (typing : Typing) : Type 0 where
  pub settings : typing.roles ≡ standard.settings
  pub limit : typing.line.limit ≡ standard.limit
  pub line : discipline.LeadsTo (roles_of standard.settings keys) typing.line
  pub ahead : typing.line.ahead ≡ 0
  pub printed : given ++ typing.printed.items ≡ local_output keys

-- these keys more were typed
abbrev pub Types : List ℕ → Typing → Typing → Type 0
Types keys old new = (before given : List ℕ) → LeadsTo before given old → LeadsTo (before ++ keys) given new
