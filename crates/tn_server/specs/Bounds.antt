-- The most bytes that a server end sends.
use Rattle.std.specs.Prelude.{◌≡◌, ℕ, ◌+◌, ◌*◌, None, length, map}
use Rattle.tn_discipline.specs.Characters.{AreAllowed, char_fault}
use Rattle.tn_nvt.specs.{Spelling.{spelling, spells}, declared.items.Item.{Item, TheVariants.{Neg, Sub}}}
use Rattle.tn_server.specs.Events.{Event, got, took, wrote, pulled, wished, char_set, echo_set, mask_set}
use Rattle.tn_server.specs.{Events.{History, begun, next}, Replies.{data_of, items_said}, Screen.queue}
use Rattle.tn_server.specs.Terms.{chars}

-- The most bytes of the reply to an item. To an option message: a message (3 bytes), the whole table (30), a
-- MODE (7) and a message for ECHO (3). To a subnegotiation: answers that are no longer than it is, and the
-- whole table.
abbrev pub max_said : Item → ℕ
max_said (Neg verb option) = 43
max_said (Sub option params) = length (spelling (Sub option params)) + 30
max_said _ = 0

-- the characters are such as a terminal can have: those of the start, and each that the owner set since
abbrev pub HasAllowedCharacters : History → Type 0
HasAllowedCharacters (begun opening canon) = AreAllowed canon.settings.chars
HasAllowedCharacters (next h (char_set func value)) =
    HasAllowedCharacters h × (char_fault (chars h) func value ≡ None)
HasAllowedCharacters (next h _) = HasAllowedCharacters h

-- The most bytes that a call of the owner adds to those that are sent, or wait to be: GA; two bytes for each
-- byte of output; a MODE and a message for ECHO; a triple; a message for ECHO; a forward mask. A pull sends
-- bytes that waited.
abbrev pub max_of_call : Event → ℕ
max_of_call (got item) = 0
max_of_call took = 2
max_of_call (wrote bytes) = 2 * length bytes
max_of_call (pulled n) = 0
max_of_call (wished editing) = 10
max_of_call (char_set func value) = 9
max_of_call (echo_set on) = 3
max_of_call (mask_set mask) = 71

-- the most bytes that all calls of a history add
abbrev pub max_of_calls : History → ℕ
max_of_calls (begun opening canon) = 0
max_of_calls (next h e) = max_of_calls h + max_of_call e

-- the bytes that were sent, and those of the symbols that wait
abbrev pub bytes_due : History → ℕ
bytes_due h = length (spells (items_said h)) + length (spells (map data_of (queue h)))
