-- One event at a client end, as a step from its state: the end after the event, what it sends and what it
-- shows. The law `steps_stand` ties these steps to histories.
use Rattle.std.specs.Prelude.{◌≡◌, ◌≢◌, ◌⊎◌, ℕ, Bool, true, IsTrue, false, Option, List, [], ◌++◌, length}
use Rattle.std.specs.{Prelude.{take, Vec, ◌∷◌, if◌then◌else◌}, List.flat_map}
use Rattle.tn_codes.specs.declared.{masks.Mask.Mask, payloads.Payload.Payload}
use Rattle.tn_discipline.specs.{Admitted.count_after, Keys.{role_of_key, roles_from}, declared.keys.Role.Role}
use Rattle.tn_discipline.specs.HalfLine.{HalfLine, empty_line, line_length, line_released, line_resumed}
use Rattle.tn_discipline.specs.{HalfLine.{line_after, GivesText}, declared.half_line.Effect.Effect}
use Rattle.tn_discipline.specs.declared.half_line.Effect.TheVariants as effect
use Rattle.tn_discipline.specs.declared.keys.Role.TheVariants as role
use Rattle.tn_linemode.specs.{Modes.{edits, traps}, Triples.triple_of, Words.list_items}
use Rattle.tn_linemode.specs.Folding.{after_all, said_all}
use Rattle.tn_nvt.specs.{Room.LacksRoom, Spelling.{spells, lf}, declared.items.Item.Item}
use Rattle.tn_nvt.specs.declared.items.Item.TheVariants.{Cmd, Byte, Newline}
use Rattle.tn_client.specs.Events.{Event, typed, got, resized, proposed, sent, entered}
use Rattle.tn_client.specs.Terms.{options_after, mode_at, mode_by, forward_by, forward_at, chars_by}
use Rattle.tn_client.specs.{Terms.{payload_at, is_echoed, tells_size}, Replies.{typed_items, command_sent}}
use Rattle.tn_client.specs.Lines.{settings_by, key_settings, role_of_typed, is_forward, sends_ahead}
use Rattle.tn_client.specs.Replies.{item_replies, end_of_edit_items, payload_answers, resize_items}
use Rattle.tn_client.specs.{Screen.{key_shown, item_shown}, Calls.{End, ReadsList}}

-- the role of a key
abbrev pub role_now : End → ℕ → Role
role_now old key = role_of_typed old.mode old.table key

-- the key sends all that is held
abbrev pub is_sent_now : Option Mask → HalfLine → Role → Bool
is_sent_now forward l r = sends_ahead forward l.limit (line_length l) r

-- the line after all held bytes were sent, if they were
abbrev pub line_sent : Bool → HalfLine → HalfLine
line_sent true l = line_released l
line_sent false l = l

-- the line after a key of this role, if the client edits
abbrev pub line_typed : Bool → Option Mask → HalfLine → Role → HalfLine
line_typed true forward l r = line_sent (is_sent_now forward l r) (line_after l r)
line_typed false forward l r = l

-- the plain count of a half-typed line after one more key, if the server edits it under this ISIG
abbrev pub count_typed : Bool → Bool → End → ℕ → ℕ → ℕ
count_typed true isig old count key = count
count_typed false isig old count key =
    count_after old.line.limit count (roles_from (role_of_key (settings_by isig old.table) key))

-- the end after a key
abbrev pub end_after_key : End → ℕ → End
end_after_key old key =
    record old {
      line = line_typed (edits old.mode) old.forward old.line (role_now old key);
      trapped = count_typed (edits old.mode) true old old.trapped key;
      plain = count_typed (edits old.mode) false old old.plain key;
    }

-- the end after a key that the server edits
abbrev pub end_after_count : End → ℕ → End
end_after_count old key =
    record old {
      trapped = count_typed false true old old.trapped key;
      plain = count_typed false false old old.plain key;
    }

-- the items that a key sends; it is this item if it is sent at once
abbrev pub says_typed : End → ℕ → Item → List Item
says_typed old key item = typed_items (edits old.mode) old.forward (role_now old key) old.line item

-- the items that a key sends
abbrev pub says_key : End → ℕ → List Item
says_key old key = says_typed old key (Byte key)

-- a new line is the key LF, but without EDIT it is sent as CR LF
abbrev pub says_new_line : End → List Item
says_new_line old = says_typed old lf Newline

-- the key had this effect: its byte was kept, and is in the forward mask
abbrev pub sends_where : Option Mask → Role → Effect → Bool
sends_where forward (role.Ordinary byte) effect.Kept = is_forward forward byte
sends_where forward _ _ = false

-- the bytes that a key shows
abbrev pub shows_key : End → ℕ → List ℕ
shows_key old key =
    let terminal = key_settings old.mode old.table in
    key_shown (is_echoed old.options) (edits old.mode) terminal (role_now old key) old.line key

-- the bytes that it sends do not fit what is allocated, or those that it shows do not, or it gives a text
abbrev pub LacksMemoryBy : {Y Z : Type 0} → End → ℕ → Item → Vec ℕ Y → Vec ℕ Z → Type 0
LacksMemoryBy old key item out screen =
    LacksRoom out (length (spells (says_typed old key item)))
    ⊎ (LacksRoom screen (length (shows_key old key))
    ⊎ (IsTrue (edits old.mode) × GivesText old.line (role_now old key)))

-- a key lacks memory for what it sends or shows, or for a text
abbrev pub LacksMemoryFor : {Y Z : Type 0} → End → ℕ → Vec ℕ Y → Vec ℕ Z → Type 0
LacksMemoryFor old key out screen = LacksMemoryBy old key (Byte key) out screen

-- a new line lacks memory for what it sends or shows, or for a text
abbrev pub LacksMemoryToEnter : {Y Z : Type 0} → End → Vec ℕ Y → Vec ℕ Z → Type 0
LacksMemoryToEnter old out screen = LacksMemoryBy old lf Newline out screen

-- the line when the mask changes: EDIT ends with nothing held, and begins with this number of bytes ahead
abbrev pub line_left : Bool → Bool → ℕ → HalfLine → HalfLine
line_left true false count l = empty_line l.limit
line_left false true count l = line_resumed l.limit count
line_left true true count l = l
line_left false false count l = l

-- a count when the mask changes: the whole half-typed line is counted once EDIT ends, and none once it begins
abbrev pub count_left : Bool → Bool → HalfLine → ℕ → ℕ
count_left true false l count = line_length l
count_left false true l count = 0
count_left true true l count = count
count_left false false l count = count

-- the count that TRAPSIG names
abbrev pub count_told : ℕ → ℕ → ℕ → ℕ
count_told mask trapped plain = if traps mask then trapped else plain

-- the end once the server edits the half-typed line, and once the client edits it
abbrev pub end_handed_over : End → End
end_handed_over old =
    record old {
      line = empty_line old.line.limit;
      trapped = line_length old.line;
      plain = line_length old.line;
    }

-- the end once the client edits the half-typed line, which the server has whole
abbrev pub end_taken_over : End → Bool → End
end_taken_over old isig =
    record old {
      line = line_resumed old.line.limit (if isig then old.trapped else old.plain);
      trapped = 0;
      plain = 0;
    }

-- the end with this mask in force
abbrev pub with_mode : End → ℕ → End
with_mode old mask =
    record old {
      mode = mask;
      line = line_left (edits old.mode) (edits mask) (count_told mask old.trapped old.plain) old.line;
      trapped = count_left (edits old.mode) (edits mask) old.line old.trapped;
      plain = count_left (edits old.mode) (edits mask) old.line old.plain;
    }

-- the held bytes are sent when EDIT ends
abbrev pub says_mode : End → ℕ → List Item
says_mode old mask = end_of_edit_items (edits old.mode) (edits mask) old.line.held

-- the end after an item
abbrev pub end_after_item : End → Item → End
end_after_item old item =
    record (with_mode old (mode_at old.options old.mode item)) {
      options = options_after old.options item;
      forward = forward_at old.options old.forward item;
      table = chars_by old.table (payload_at old.options item);
    }

-- the reply to an item
abbrev pub says_got : End → Item → List Item
says_got old item = item_replies old.options old.mode old.table (old.width, old.height) old.line item

-- the end after a payload
abbrev pub end_after_payload : End → Option Payload → End
end_after_payload old payload =
    record (with_mode old (mode_by old.mode payload)) {
      forward = forward_by old.forward payload;
      table = chars_by old.table payload;
    }

-- the reply to a payload
abbrev pub says_sub : End → Option Payload → List Item
says_sub old payload = says_mode old (mode_by old.mode payload) ++ payload_answers old.mode old.table payload

-- the end after a new size
abbrev pub end_after_resize : End → ℕ → ℕ → End
end_after_resize old width height = record old { width = width; height = height }

-- the items that a new size sends
abbrev pub says_resize : End → ℕ → ℕ → List Item
says_resize old width height = resize_items (tells_size old.options) (old.width, old.height) (width, height)

-- ANY EVENT: the end after it, what it sends and what it shows
abbrev pub end_after : End → Event → End
end_after old (typed key) = end_after_key old key
end_after old entered = end_after_key old lf
end_after old (got item) = end_after_item old item
end_after old (resized width height) = end_after_resize old width height
end_after old (proposed func value) = old
end_after old (sent command) = old

-- the items that the end sends at an event
abbrev pub says : End → Event → List Item
says old (typed key) = says_key old key
says old entered = says_new_line old
says old (got item) = says_got old item
says old (resized width height) = says_resize old width height
says old (proposed func value) = list_items (triple_of func value ∷ [])
says old (sent command) = Cmd (command_sent command) ∷ []

-- the bytes that the end shows at an event
abbrev pub displays : End → Event → List ℕ
displays old (typed key) = shows_key old key
displays old entered = shows_key old lf
displays old (got item) = item_shown item
displays old e = []

-- ITEMS, one after another
abbrev pub end_after_items : End → List Item → End
end_after_items old items = after_all end_after_item old items

-- the items that the end sends at items, one after another
abbrev pub says_items : End → List Item → List Item
says_items old items = said_all end_after_item says_got old items

-- the bytes that items show, one after another
abbrev pub items_shown : List Item → List ℕ
items_shown items = flat_map item_shown items

-- the items that the end sends at the event do not fit what is allocated
abbrev pub LacksRoomFor : {Z : Type 0} → End → Event → Vec ℕ Z → Type 0
LacksRoomFor old e out = LacksRoom out (length (spells (says old e)))

-- the event makes the end send or show something
abbrev pub SaysOrShows : End → Event → Type 0
SaysOrShows old e = (says old e ≢ []) ⊎ (displays old e ≢ [])

-- an item needs memory: to send or to show something, or to read a list
abbrev pub MayWantMemory : End → Item → Type 0
MayWantMemory old item = (says_got old item ≢ []) ⊎ ((item_shown item ≢ []) ⊎ ReadsList old.options item)

-- the later bytes begin with the earlier ones
abbrev pub Begins : List ℕ → List ℕ → Type 0
Begins before after = take (length before) after ≡ before
