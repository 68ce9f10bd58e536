-- The replies of a client end: items, one after another.
use Rattle.std.specs.Prelude.{ℕ, Bool, true, false, not, ◌&&◌, ◌==◌, Option, Some, None, List, [], ◌∷◌, ◌++◌}
use Rattle.std.specs.Prelude.{map, if◌then◌else◌}
use Rattle.tn_codes.specs.declared.{codes.{Command.Command, Func.Func}, masks.Mask.Mask}
use Rattle.tn_codes.specs.declared.payloads.Payload.{Payload, TheVariants.{Naws, Mode, ForwardOn, ForwardOff}}
use Rattle.tn_codes.specs.declared.payloads.Payload.TheVariants.{ForwardYes, ForwardNo, Slc}
use Rattle.tn_codes.specs.declared.codes.Command.TheVariants as command
use Rattle.tn_codes.specs.declared.codes.Func.TheVariants as func
use Rattle.tn_discipline.specs.{Characters.Characters, declared.keys.Role.Role}
use Rattle.tn_discipline.specs.HalfLine.{HalfLine, line_length, has_held, has_ahead, line_after}
use Rattle.tn_discipline.specs.declared.reads.Sig.TheVariants.{Int, Quit, Tstp}
use Rattle.tn_discipline.specs.declared.keys.Role.TheVariants as role
use Rattle.tn_linemode.specs.{Modes.{edits, mode_answer}, Exchange.client_answers, Triples.triple_of}
use Rattle.tn_linemode.specs.Words.{word_items, payload_items, mode_items, list_items}
use Rattle.tn_nvt.specs.{declared.items.Item.{Item, TheVariants.{Byte, Newline, Cmd, Neg, Sub}}, Spelling.lf}
use Rattle.tn_option.specs.Options.{Options, reply_to}
use Rattle.tn_client.specs.Events.{Event, typed, got, resized, proposed, sent, History, begun, next, entered}
use Rattle.tn_client.specs.Terms.{options, mode, forward, chars, size, payload_at, options_after, mode_at}
use Rattle.tn_client.specs.{Terms.tells_size, Lines.{role_at, sends_ahead, line}}
use Rattle.tn_client.specs.declared.commands.UserCommand.{UserCommand}
use Rattle.tn_client.specs.declared.commands.UserCommand.TheVariants as user

-- bytes of data
abbrev pub byte_items : List ℕ → List Item
byte_items bytes = map Byte bytes

-- RFC 1184, section 2.4: the function of the local character that has this role
abbrev pub func_of : Role → Option Func
func_of (role.Signal Int) = Some func.Ip
func_of (role.Signal Quit) = Some func.Abort
func_of (role.Signal Tstp) = Some func.Susp
func_of role.Eof = Some func.Eof
func_of role.Erase = Some func.Ec
func_of role.Kill = Some func.El
func_of _ = None

-- the command of a stream that stands for a function, if there is one
abbrev pub command_for : Option Func → Option Command
command_for (Some func.Ip) = Some command.Ip
command_for (Some func.Abort) = Some command.Abort
command_for (Some func.Eof) = Some command.Eof
command_for (Some func.Susp) = Some command.Susp
command_for (Some func.Ec) = Some command.Ec
command_for (Some func.El) = Some command.El
command_for _ = None

-- the command that stands for a key of this role
abbrev pub command_of : Role → Option Command
command_of r = command_for (func_of r)

-- a command as an item, if there is one
abbrev pub command_items : Option Command → List Item
command_items None = []
command_items (Some command) = Cmd command ∷ []

-- a key without EDIT is sent at once: a signal, which it is only with TRAPSIG, as its command, and any other as
-- this item
abbrev pub raw_items : Role → Item → List Item
raw_items (role.Signal sig) item = command_items (command_of (role.Signal sig))
raw_items _ item = item ∷ []

-- With EDIT a line is sent once it is closed, and a signal at once. An erasure is sent if it reaches bytes
-- that were sent before.
abbrev pub edited_key_items : Role → HalfLine → List Item
edited_key_items role.Nl l = byte_items l.held ++ Newline ∷ []
edited_key_items (role.Eol byte) l = byte_items l.held ++ Byte byte ∷ []
edited_key_items (role.Eol2 byte) l = byte_items l.held ++ Byte byte ∷ []
edited_key_items role.Eof l = byte_items l.held ++ command_items (command_of role.Eof)
edited_key_items (role.Signal sig) l = command_items (command_of (role.Signal sig))
edited_key_items role.Erase l =
    if not (has_held l) && has_ahead l then command_items (command_of role.Erase) else []
edited_key_items role.Kill l = if has_ahead l then command_items (command_of role.Kill) else []
edited_key_items role.Ignored l = []
edited_key_items (role.Ordinary byte) l = []

-- RFC 1184, section 2.3: after a byte of the forward mask all that is held is sent, that byte the last
abbrev pub sent_ahead_items : Bool → HalfLine → List Item
sent_ahead_items true l = byte_items l.held
sent_ahead_items false l = []

-- the items that a key of this role sends if the client edits: a closed line, a signal, or all held bytes
abbrev pub edit_items : Option Mask → Role → HalfLine → List Item
edit_items forward r l =
    edited_key_items r l ++ sent_ahead_items (sends_ahead forward l.limit (line_length l) r) (line_after l r)

-- a key as an item: as a new line, or as its byte
abbrev pub sent_as : Bool → ℕ → Item
sent_as true key = Newline
sent_as false key = Byte key

-- the items that a key sends, which is this item if it is sent at once
abbrev pub typed_items : Bool → Option Mask → Role → HalfLine → Item → List Item
typed_items true forward r l item = edit_items forward r l
typed_items false forward r l item = raw_items r item

-- RFC 1073: the window's size
abbrev pub size_items : ℕ × ℕ → List Item
size_items (width, height) = payload_items (Naws width height)

-- the size, if NAWS came on
abbrev pub new_size_items : Bool → Bool → ℕ × ℕ → List Item
new_size_items was on z = if on && not was then size_items z else []

-- the answer to a payload: a forward mask is taken, and dropped again
abbrev pub payload_answers : ℕ → Characters → Option Payload → List Item
payload_answers m c (Some (Mode mask)) = mode_items (mode_answer m mask)
payload_answers m c (Some (ForwardOn mask)) = payload_items ForwardYes
payload_answers m c (Some ForwardOff) = payload_items ForwardNo
payload_answers m c (Some (Slc triples)) = list_items (client_answers c triples)
payload_answers m c _ = []

-- the answer to an item
abbrev pub answer_items : Options → ℕ → Characters → ℕ × ℕ → Item → List Item
answer_items o m c z (Neg verb option) =
    word_items (reply_to o verb option)
    ++ new_size_items (tells_size o) (tells_size (options_after o (Neg verb option))) z
answer_items o m c z (Sub option params) = payload_answers m c (payload_at o (Sub option params))
answer_items o m c z _ = []

-- the held bytes are sent when EDIT ends
abbrev pub end_of_edit_items : Bool → Bool → List ℕ → List Item
end_of_edit_items true false bytes = byte_items bytes
end_of_edit_items true true bytes = []
end_of_edit_items false after bytes = []

-- the reply of the client to an item
abbrev pub item_replies : Options → ℕ → Characters → ℕ × ℕ → HalfLine → Item → List Item
item_replies o m c z l item =
    end_of_edit_items (edits m) (edits (mode_at o m item)) l.held ++ answer_items o m c z item

-- the two sizes are equal
abbrev pub is_same_size : ℕ × ℕ → ℕ × ℕ → Bool
is_same_size (a, b) (c, d) = a == c && b == d

-- a size that changed, while NAWS is on
abbrev pub resize_items : Bool → ℕ × ℕ → ℕ × ℕ → List Item
resize_items on old new = if on && not (is_same_size old new) then size_items new else []

-- RFC 854: the command that the user sends
abbrev pub command_sent : UserCommand → Command
command_sent user.Brk = command.Brk
command_sent user.Ip = command.Ip
command_sent user.Ayt = command.Ayt
command_sent user.Nop = command.Nop

-- the items that the client sends at an event
abbrev pub replies : History → Event → List Item
replies h (typed key) = typed_items (edits (mode h)) (forward h) (role_at h key) (line h) (Byte key)
replies h entered = typed_items (edits (mode h)) (forward h) (role_at h lf) (line h) Newline
replies h (got item) = item_replies (options h) (mode h) (chars h) (size h) (line h) item
replies h (resized width height) = resize_items (tells_size (options h)) (size h) (width, height)
replies h (proposed func value) = list_items (triple_of func value ∷ [])
replies h (sent command) = Cmd (command_sent command) ∷ []

-- all that was sent
abbrev pub items_said : History → List Item
items_said (begun width height limit) = []
items_said (next h e) = items_said h ++ replies h e
