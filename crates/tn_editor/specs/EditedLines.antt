-- The half-typed line as an editor holds it.
use Rattle.std.specs.Prelude.{◌≤◌, ℕ, ◌+◌, ◌-◌, Bool, true, false, not, ◌&&◌, ◌||◌, ◌==◌, nat_le, List, [], ◌∷◌, ◌++◌, length, take, map}
use Rattle.std.specs.Prelude.{if◌then◌else◌}
use Rattle.tn_discipline.specs.Limits.{max_counted}
use Rattle.tn_editor.specs.{Grouping.{announced, bytes_of, continues, look, parts_words, past}, Edited.{Editing, no_character}}
use Rattle.tn_editor.specs.declared.{characters.Character.Character, edit_keys.Words.Words}

-- The number of bytes ahead, the bytes after them, and their characters, each by how it begins and how long
-- it is. Characters are listed from the last to the first.
pub record HeldLine : Type 0 where
  pub ahead : ℕ
  pub held : List ℕ
  pub characters : List Character
  pub limit : ℕ

-- the form in which this half-typed line is held
abbrev pub as_held : ℕ → Editing → HeldLine
as_held limit e =
    record { ahead = length e.ahead; held = bytes_of e.characters; characters = map look e.characters; limit = limit }

-- the number of bytes of a half-typed line, ahead or held
abbrev pub line_length : HeldLine → ℕ
line_length line = line.ahead + length line.held

-- the last character, or the lack of one
abbrev pub newest_look : List Character → Character
newest_look [] = no_character
newest_look (character ∷ before) = character

-- the characters before the last one
abbrev pub rest_of : List Character → List Character
rest_of [] = []
rest_of (character ∷ before) = before

-- the number of bytes of these characters
abbrev pub weigh : List Character → ℕ
weigh [] = 0
weigh (character ∷ before) = weigh before + character.length

-- each has a byte
abbrev pub AreSome : List Character → Type 0
AreSome [] = Unit {0}
AreSome (character ∷ before) = (1 ≤ character.length) × AreSome before

-- a character of which this byte came
abbrev pub begun : ℕ → Character
begun byte = record { first = byte; length = 1 }

-- a character with one more byte
abbrev pub grown : Character → Character
grown character = record { first = character.first; length = character.length + 1 }

-- the characters with one more byte, which continues the last or begins another
abbrev pub joined : Bool → List Character → ℕ → List Character
joined iutf8 characters byte =
    if continues iutf8 (newest_look characters) byte then grown (newest_look characters) ∷ rest_of characters
    else begun byte ∷ characters

-- the line with one more byte
abbrev pub line_joined : Bool → HeldLine → ℕ → HeldLine
line_joined iutf8 line byte =
    record {
      ahead = line.ahead;
      held = line.held ++ byte ∷ [];
      characters = joined iutf8 line.characters byte;
      limit = line.limit;
    }

-- the line with only these of its characters, which are its first ones
abbrev pub cut_to : HeldLine → List Character → HeldLine
cut_to line characters =
    record {
      ahead = line.ahead;
      held = take (weigh characters) line.held;
      characters = characters;
      limit = line.limit;
    }

-- the line without the last byte ahead
abbrev pub line_before : HeldLine → HeldLine
line_before line = record line { ahead = line.ahead - 1 }

-- the character parts words, or does not
abbrev pub is_parting : Bool → Words → Character → Bool
is_parting true w character = parts_words w character
is_parting false w character = not (parts_words w character)

-- the characters that are left without the last word
abbrev pub left_of : Words → List Character → List Character
left_of w characters = past (is_parting false w) (past (is_parting true w) characters)

-- the line without its last character, or without the last byte ahead
abbrev pub erased_by : HeldLine → List Character → HeldLine
erased_by line [] = line_before line
erased_by line (character ∷ before) = cut_to line before

-- the line after ERASE
abbrev pub line_erased : HeldLine → HeldLine
line_erased line = erased_by line line.characters

-- the line without its last word, or without the last byte ahead
abbrev pub word_erased_by : Words → HeldLine → List Character → HeldLine
word_erased_by w line [] = line_before line
word_erased_by w line (character ∷ before) = cut_to line (left_of w (character ∷ before))

-- the line after WERASE
abbrev pub line_word_erased : Words → HeldLine → HeldLine
line_word_erased w line = word_erased_by w line line.characters

-- the room that a byte wants
abbrev pub room_for : Bool → List Character → ℕ → ℕ
room_for iutf8 characters byte = if continues iutf8 (newest_look characters) byte then 1 else announced iutf8 byte

-- the byte is kept, if this came last of a refused character
abbrev pub is_taken : Bool → HeldLine → Character → ℕ → Bool
is_taken iutf8 line refused byte =
    not (continues iutf8 refused byte)
    && nat_le (line_length line + room_for iutf8 line.characters byte) (max_counted line.limit)

-- the refused character after one more byte
abbrev pub refused_next : Bool → HeldLine → Character → ℕ → Character
refused_next iutf8 line refused byte =
    if is_taken iutf8 line refused byte then no_character
    else (if continues iutf8 refused byte then grown refused else begun byte)

-- the line after one more byte, if it is taken
abbrev pub line_next : Bool → HeldLine → Character → ℕ → HeldLine
line_next iutf8 line refused byte =
    if is_taken iutf8 line refused byte then line_joined iutf8 line byte else line

-- the number of times that a byte is typed at the plain terminal
abbrev pub times_typed : Bool → HeldLine → Character → ℕ → ℕ
times_typed iutf8 line refused byte =
    if is_taken iutf8 line refused byte || line_length line == max_counted line.limit then 1 else 0

-- the number of ERASEs for a character, 1 if there is none
abbrev pub times_erased : Character → ℕ
times_erased newest = if newest.length == 0 then 1 else newest.length
