-- Whole characters.
use Rattle.std.specs.Prelude.{◌≡◌, ℕ, ◌+◌, ◌⊎◌, IsTrue, IsFalse, List, [], ◌∷◌, length, map}
use Rattle.tn_discipline.specs.declared.keys.Role.TheVariants.{Ordinary}
use Rattle.tn_editor.specs.{Grouping.{announced, is_between}, EditKeys.Terminal}
use Rattle.tn_editor.specs.declared.edit_keys.EditRole.{EditRole, TheVariants.Plain}

-- keys that join the line, if there is room
abbrev pub bytes_typed : List ℕ → List EditRole
bytes_typed bytes = map (λ byte. Plain (Ordinary byte)) bytes

-- these bytes continue a character of UTF-8
abbrev pub AreMore : List ℕ → Type 0
AreMore [] = Unit {0}
AreMore (byte ∷ more) = IsTrue (is_between 128 191 byte) × AreMore more

-- the bytes of one character, all of them
pub record IsCharacter (t : Terminal) (first : ℕ) (more : List ℕ) : Type 0 where
  pub begins : IsFalse (is_between 128 191 first)
  pub whole : length more + 1 ≡ announced t.keys.iutf8 first
  pub more_of_it : AreMore more

-- after these characters there is this one, or there are the same
abbrev pub IsWholeOrNone : List (List ℕ) → List ℕ → List (List ℕ) → Type 0
IsWholeOrNone before character after = (after ≡ character ∷ before) ⊎ (after ≡ before)
