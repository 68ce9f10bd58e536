-- The most bytes that a client end sends.
use Rattle.std.specs.Prelude.{ℕ, ◌+◌, List, length}
use Rattle.tn_linemode.specs.Modes.{edits}
use Rattle.tn_nvt.specs.{Spelling.{spelling, spells}, declared.items.Item.{Item, TheVariants.{Neg, Sub}}}
use Rattle.tn_client.specs.Events.{Event, typed, got, resized, proposed, sent, History, begun, next, entered}
use Rattle.tn_client.specs.{Lines.held_bytes, Replies.{byte_items, end_of_edit_items, items_said}, Terms.mode}

-- the held bytes of a line are sent at an item that ends EDIT, and none of them at any other
abbrev pub held_sent : History → Item → List Item
held_sent h item = end_of_edit_items (edits (mode h)) (edits (mode (next h (got item)))) (held_bytes h)

-- The most bytes of the reply to an item, besides the held bytes. To an option message: a message (3 bytes)
-- and the window's size (13). To a subnegotiation: an answer that is no longer than it is.
abbrev pub max_answered : Item → ℕ
max_answered (Neg verb option) = 16
max_answered (Sub option params) = length (spelling (Sub option params))
max_answered _ = 0

-- The most bytes that a call of the owner adds to those that are sent, or held: two bytes for a key or a
-- command; the window's size; a triple.
abbrev pub max_of_call : Event → ℕ
max_of_call (typed key) = 2
max_of_call entered = 2
max_of_call (got item) = 0
max_of_call (resized width height) = 13
max_of_call (proposed func value) = 10
max_of_call (sent command) = 2

-- the most bytes that all calls of a history add
abbrev pub max_of_calls : History → ℕ
max_of_calls (begun width height limit) = 0
max_of_calls (next h e) = max_of_calls h + max_of_call e

-- the bytes that were sent, and those that are held of a line
abbrev pub bytes_due : History → ℕ
bytes_due h = length (spells (items_said h)) + length (spells (byte_items (held_bytes h)))
