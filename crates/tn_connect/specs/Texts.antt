-- The keys that the bytes of a text are: RETURN ends each of its lines, which CR, LF or CR LF ends in the
-- text.
use Rattle.std.specs.Prelude.{ℕ, Bool, true, false, ◌==◌, Option, option_map, List, [], ◌∷◌, ◌++◌, if◌then◌else◌}

-- the key that a byte is, after a CR and after any other byte
abbrev pub key_of_text : Bool → ℕ → List ℕ
key_of_text true byte = if byte == 10 then [] else byte ∷ []
key_of_text false byte = if byte == 10 then 13 ∷ [] else byte ∷ []

-- the keys that the bytes of a text are; the test is whether a CR came before
unfoldable pub keys_of_text : Bool → List ℕ → List ℕ
keys_of_text after [] = []
keys_of_text after (byte ∷ bytes) = key_of_text after byte ++ keys_of_text (byte == 13) bytes

-- the keys that bytes are, if they are those of a text, and if they are keys
abbrev pub with_text : Bool → Bool → Option (List ℕ) → Option (List ℕ)
with_text true after bytes = option_map (keys_of_text after) bytes
with_text false after bytes = bytes
