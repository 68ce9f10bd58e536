-- The entries that a terminal with editing keys makes of typed keys: its half-typed line is a list of
-- characters (POSIX.1-2017, XBD 11.1.9: ERASE deletes the last character in the line).
use Rattle.std.specs.Prelude.{ℕ, ◌+◌, Bool, not, ◌&&◌, nat_le, List, [], ◌∷◌, ◌++◌, length, if◌then◌else◌}
use Rattle.tn_discipline.specs.{Limits.max_counted, Steps.{front, gain_after}, declared.reads.Entry.Entry}
use Rattle.tn_discipline.specs.declared.keys.Role.TheVariants as role
use Rattle.tn_editor.specs.Grouping.{continues, bytes_of, with_byte, wanted, before_word}
use Rattle.tn_editor.specs.{EditKeys.{Terminal, edit_roles_of}, declared.characters.Character.Character}
use Rattle.tn_editor.specs.declared.edit_keys.Words.{Words}
use Rattle.tn_editor.specs.declared.edit_keys.EditRole.{EditRole, TheVariants.{Plain, EraseWord, Reprint}}

-- The half-typed line: the bytes ahead, which were typed before and of which nothing is known, and the
-- characters after them, from the last to the first. With them what came of a character for which the line
-- had no room, while more of it may come.
pub record Editing : Type 0 where
  pub ahead : List ℕ
  pub characters : List (List ℕ)
  pub refused : Character

-- the lack of a character
abbrev pub no_character : Character
no_character = record { first = 0; length = 0 }

-- these bytes are ahead, and no character is there
abbrev pub after_half : List ℕ → Editing
after_half half = record { ahead = half; characters = []; refused = no_character }

-- the state of an editor at which nothing was typed
abbrev pub nothing_typed : Editing
nothing_typed = after_half []

-- the state with these characters, and no refused one
abbrev pub with_characters : Editing → List (List ℕ) → Editing
with_characters e characters = record { ahead = e.ahead; characters = characters; refused = no_character }

-- the half-typed line as bytes
abbrev pub line_bytes : Editing → List ℕ
line_bytes e = e.ahead ++ bytes_of e.characters

-- without the last character; if there is none, without the last byte
abbrev pub without_last : List ℕ → List (List ℕ) → Editing
without_last ahead [] = after_half (front ahead)
without_last ahead (character ∷ before) = record { ahead = ahead; characters = before; refused = no_character }

-- the state after ERASE
abbrev pub erased : Editing → Editing
erased e = without_last e.ahead e.characters

-- without the last word; if there is no character, without the last byte
abbrev pub without_word : Words → List ℕ → List (List ℕ) → Editing
without_word words ahead [] = after_half (front ahead)
without_word words ahead (character ∷ before) =
    record { ahead = ahead; characters = before_word words (character ∷ before); refused = no_character }

-- the state after WERASE
abbrev pub word_erased : Words → Editing → Editing
word_erased words e = without_word words e.ahead e.characters

module _ (t : Terminal) where
  -- the byte is more of a character that was refused
  abbrev pub is_refused : Editing → ℕ → Bool
  is_refused e byte = continues t.keys.iutf8 e.refused byte

  -- XBD 11.1.6: there is room for the character that the byte begins
  abbrev pub has_room : Editing → ℕ → Bool
  has_room e byte =
      nat_le (length (line_bytes e) + wanted t.keys.iutf8 e.characters byte) (max_counted t.canon.limit)

  -- a character is kept as a whole, or refused as a whole
  abbrev pub is_kept : Editing → ℕ → Bool
  is_kept e byte = not (is_refused e byte) && has_room e byte

  abbrev pub with_refused : Editing → ℕ → Character
  with_refused e byte =
      if is_refused e byte then record { first = e.refused.first; length = e.refused.length + 1 }
      else record { first = byte; length = 1 }

  -- the state that an ordinary byte leaves
  abbrev pub typed_byte : Editing → ℕ → Editing
  typed_byte e byte =
      if is_kept e byte then with_characters e (with_byte t.keys.iutf8 e.characters byte)
      else record { ahead = e.ahead; characters = e.characters; refused = with_refused e byte }

  -- the state that one more key leaves
  abbrev pub edited_next : Editing → EditRole → Editing
  edited_next e (Plain (role.Ordinary byte)) = typed_byte e byte
  edited_next e (Plain role.Erase) = erased e
  edited_next e EraseWord = word_erased t.keys.words e
  edited_next e Reprint = e
  edited_next e (Plain (role.Signal sig)) = e
  edited_next e (Plain role.Ignored) = e
  edited_next e (Plain _) = nothing_typed

-- the entries that one more key gives
abbrev pub edited_gain : Editing → EditRole → List Entry
edited_gain e (Plain r) = gain_after (line_bytes e) r
edited_gain e EraseWord = []
edited_gain e Reprint = []

-- the state that keys leave
abbrev pub edited_all : Terminal → Editing → List EditRole → Editing
edited_all t e [] = e
edited_all t e (r ∷ roles) = edited_all t (edited_next t e r) roles

-- the entries that keys give
abbrev pub edited_gains : Terminal → Editing → List EditRole → List Entry
edited_gains t e [] = []
edited_gains t e (r ∷ roles) = edited_gain e r ++ edited_gains t (edited_next t e r) roles

-- the state that typed keys leave, and the entries that they give
abbrev pub edited : Terminal → List ℕ → Editing
edited t keys = edited_all t nothing_typed (edit_roles_of t keys)

-- the entries of these keys at a terminal with editing keys
abbrev pub edited_entries : Terminal → List ℕ → List Entry
edited_entries t keys = edited_gains t nothing_typed (edit_roles_of t keys)

-- the half-typed line of these keys at a terminal with editing keys
abbrev pub edited_half : Terminal → List ℕ → List ℕ
edited_half t keys = line_bytes (edited t keys)
