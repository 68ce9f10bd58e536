-- A line in characters and words.
use Rattle.std.specs.Prelude.{ℕ, Bool, not, ◌&&◌, ◌||◌, ◌==◌, nat_lt, nat_le, List, [], ◌∷◌, ◌++◌, length}
use Rattle.std.specs.Prelude.{if◌then◌else◌}
use Rattle.tn_editor.specs.declared.{characters.Character.Character, edit_keys.Words.Words}
use Rattle.tn_editor.specs.declared.edit_keys.Words.TheVariants as words

-- the byte lies between these two
abbrev pub is_between : ℕ → ℕ → ℕ → Bool
is_between least most byte = nat_le least byte && nat_le byte most

-- RFC 3629, section 4: how many bytes the character has that begins with this byte
abbrev pub announced_utf8 : ℕ → ℕ
announced_utf8 byte =
    if is_between 194 223 byte then 2 else
    (if is_between 224 239 byte then 3 else
    (if is_between 240 244 byte then 4 else 1))

-- the number of bytes of the character that begins with this byte
abbrev pub announced : Bool → ℕ → ℕ
announced iutf8 byte = if iutf8 then announced_utf8 byte else 1

-- the first byte of a character, and the number of its bytes that came
abbrev pub look : List ℕ → Character
look [] = record { first = 0; length = 0 }
look (first ∷ more) = record { first = first; length = length (first ∷ more) }

-- the byte goes on with a character that began so; any other byte begins one
abbrev pub continues : Bool → Character → ℕ → Bool
continues iutf8 character byte =
    is_between 128 191 byte && (nat_lt 0 character.length && nat_lt character.length (announced iutf8 character.first))

-- Characters are listed from the last to the first.
abbrev pub newest : List (List ℕ) → List ℕ
newest [] = []
newest (character ∷ before) = character

-- the characters before the last one
abbrev pub before_newest : List (List ℕ) → List (List ℕ)
before_newest [] = []
before_newest (character ∷ before) = before

-- the bytes of a line
abbrev pub bytes_of : List (List ℕ) → List ℕ
bytes_of [] = []
bytes_of (character ∷ before) = bytes_of before ++ character

-- the characters with one more byte
abbrev pub with_byte : Bool → List (List ℕ) → ℕ → List (List ℕ)
with_byte iutf8 characters byte =
    if continues iutf8 (look (newest characters)) byte then (newest characters ++ byte ∷ []) ∷ before_newest characters
    else (byte ∷ []) ∷ characters

-- the room that the byte wants: one that begins a character wants as much as the whole of it
abbrev pub wanted : Bool → List (List ℕ) → ℕ → ℕ
wanted iutf8 characters byte = if continues iutf8 (look (newest characters)) byte then 1 else announced iutf8 byte

-- the byte is a letter, a digit or the underline
abbrev pub is_word_byte : ℕ → Bool
is_word_byte byte = is_between 48 57 byte || is_between 65 90 byte || is_between 97 122 byte || byte == 95

-- the character parts words: a space or a tab does, or all of ASCII but letters, digits and the underline
abbrev pub parts_words : Words → Character → Bool
parts_words words.Blanks character = character.first == 32 || character.first == 9
parts_words words.Symbols character = nat_lt character.first 128 && not (is_word_byte character.first)

-- the characters without the newest of them that pass the test
abbrev pub past : {A : Type 0} → (A → Bool) → List A → List A
past test [] = []
past test (character ∷ before) = if test character then past test before else character ∷ before

-- the characters without the last word, and without what parts it from the end of the line
abbrev pub before_word : Words → List (List ℕ) → List (List ℕ)
before_word w characters =
    past (λ c. not (parts_words w (look c))) (past (λ c. parts_words w (look c)) characters)
