-- The keys of a plain terminal that typed keys become.
use Rattle.std.specs.Prelude.{◌≡◌, ℕ, ◌-◌, Bool, ◌||◌, ◌==◌, Option, Some, None, List, [], ◌∷◌, ◌++◌, length, replicate}
use Rattle.std.specs.Prelude.{if◌then◌else◌}
use Rattle.tn_discipline.specs.{Characters.Characters, Limits.max_counted, declared.keys.Role.Role}
use Rattle.tn_discipline.specs.declared.keys.Role.TheVariants as role
use Rattle.tn_editor.specs.{Grouping.announced, EditKeys.{Terminal, edit_role_of_key}}
use Rattle.tn_editor.specs.declared.edit_keys.EditRole.{EditRole, TheVariants.{Plain, EraseWord, Reprint}}
use Rattle.tn_editor.specs.Edited.{Editing, nothing_typed, line_bytes, word_erased, is_kept, edited_next}

-- the number of ERASEs that take back the last character; one if there is none
abbrev pub erases_newest : List (List ℕ) → ℕ
erases_newest [] = 1
erases_newest (character ∷ before) = length character

-- the ERASE character, if there is one
abbrev pub erase_key : Option ℕ → ℕ → ℕ
erase_key None key = key
erase_key (Some erase) key = erase

-- the key that is typed at the plain terminal in place of this one
abbrev pub becomes : Characters → EditRole → ℕ → ℕ
becomes chars EraseWord key = erase_key chars.erase key
becomes chars _ key = key

module _ (t : Terminal) where
  -- the number of ERASEs that take back the last word
  abbrev pub erases_word : Editing → ℕ
  erases_word e = length (line_bytes e) - length (line_bytes (word_erased t.keys.words e))

  -- the plain terminal drops it by itself
  abbrev pub is_dropped_there : Editing → Bool
  is_dropped_there e = length (line_bytes e) == max_counted t.canon.limit

  -- the number of times that a key is typed at the plain terminal
  abbrev pub times : Editing → EditRole → ℕ
  times e (Plain (role.Ordinary byte)) = if is_kept t e byte || is_dropped_there e then 1 else 0
  times e (Plain role.Erase) = erases_newest e.characters
  times e EraseWord = erases_word e
  times e Reprint = 0
  times e (Plain _) = 1

  -- the keys that one typed key becomes
  abbrev pub expanded_key : Editing → ℕ → List ℕ
  expanded_key e key = let r = edit_role_of_key t key in replicate (times e r) (becomes t.canon.settings.chars r key)

-- the keys that typed keys become
abbrev pub expanded_from : Terminal → Editing → List ℕ → List ℕ
expanded_from t e [] = []
expanded_from t e (key ∷ keys) = expanded_key t e key ++ expanded_from t (edited_next t e (edit_role_of_key t key)) keys

-- the keys of the plain terminal for these typed keys
abbrev pub expanded : Terminal → List ℕ → List ℕ
expanded t keys = expanded_from t nothing_typed keys

-- the role at the plain terminal of each key that a key of this role becomes
abbrev pub played : EditRole → Role
played (Plain r) = r
played EraseWord = role.Erase
played Reprint = role.Erase

-- the roles of a key that is typed n times; a carriage return that is dropped has none
abbrev pub played_times : EditRole → ℕ → List Role
played_times (Plain role.Ignored) n = []
played_times r n = replicate n (played r)

-- a key that begins no character of several bytes, and is no editing key
abbrev pub IsAsBefore : Terminal → EditRole → Type 0
IsAsBefore t (Plain (role.Ordinary byte)) = announced t.keys.iutf8 byte ≡ 1
IsAsBefore t (Plain _) = Unit {0}
IsAsBefore t _ = ⊥
