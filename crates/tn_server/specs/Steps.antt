-- One event at a server end, as a step from the end's state: the end after it, and what it sends. The law
-- `steps_stand` ties these steps to histories.
use Rattle.std.specs.Prelude.{◌≡◌, ◌<◌, ◌≢◌, ◌⊎◌, ℕ, nat_lt, Bool, true, IsTrue, false, ◌||◌, Option, Some, None}
use Rattle.std.specs.Prelude.{is_some, if◌then◌else◌, List, [], ◌∷◌, ◌++◌, length, map, take, drop, Vec}
use Rattle.tn_codes.specs.declared.codes.{Command.{Command, TheVariants.Ga}, Verb.Verb}
use Rattle.tn_codes.specs.declared.{payloads.Payload.Payload, triples.Triple.Triple}
use Rattle.tn_codes.specs.declared.payloads.Payload.TheVariants as payload
use Rattle.tn_discipline.specs.{declared.termios.Settings.Settings, Characters.{Characters, slot, with_slot}}
use Rattle.tn_discipline.specs.{Keys.gives_entry, declared.keys.Role.Role}
use Rattle.tn_discipline.specs.declared.{reads.Entry.Entry, termios.Flags.Flags}
use Rattle.tn_linemode.specs.{Folding.{after_all, said_all}, Modes.wish_of_mask, Exchange.server_after}
use Rattle.tn_linemode.specs.Modes.{Modes, no_mode, edits, mask_sent, modes_after_wish, modes_after_mode}
use Rattle.tn_linemode.specs.Words.{IsList, differ, word_items, mode_items, payload_items}
use Rattle.tn_nvt.specs.{Room.LacksRoom, Spelling.spells, declared.items.Item.Item}
use Rattle.tn_nvt.specs.declared.items.Item.TheVariants.{Byte, Newline, Cmd, Neg, Sub}
use Rattle.tn_option.specs.Options.{options_after_word, reply_to}
use Rattle.tn_pty.specs.Terminal.{Terminal, shut_terminal, max_waiting, fitting_count, output_symbols}
use Rattle.tn_pty.specs.{Typing.{terminal_after, command_role, command_shows}, declared.pty.PtyFault.PtyFault}
use Rattle.tn_pty.specs.declared.pty.PtyFault.TheVariants as pty
use Rattle.tn_server.specs.Events.{Event, got, took, wrote, pulled, wished, char_set, echo_set, mask_set}
use Rattle.tn_server.specs.Terms.{payload_at, echoes, linemode, options_with_echo, wants_echo, mask_for}
use Rattle.tn_server.specs.{Events.breaks_after, Terms.editing, Lines.{role_at, role_of_byte}}
use Rattle.tn_server.specs.{Screen.{byte_shows, sends_ga}, Calls.End}
use Rattle.tn_server.specs.Replies.{list_replies, new_table_items, echo_items, character_items}
use Rattle.tn_server.specs.{Replies.{forward_payload, data_of}, declared.faults.ServerFault.ServerFault}
use Rattle.tn_server.specs.declared.{terms.Negotiation.Negotiation, wishes.Editing.Editing}
use Rattle.tn_server.specs.declared.faults.ServerFault.TheVariants as fault

-- the masks and options of an end after LINEMODE changed, a request was made or the flag ECHO was set, with
-- the new options before the server's message for ECHO
abbrev pub modes_before : Bool → Modes → Modes
modes_before true m = no_mode
modes_before false m = m

-- the MODE that is sent for the requested mask, if LINEMODE is on
abbrev pub modes_told : Bool → Modes → ℕ → Option ℕ
modes_told true m wish = mask_sent m wish
modes_told false m wish = None

-- the masks after the requested one was asked for, if LINEMODE is on
abbrev pub modes_asked : Bool → Modes → ℕ → Modes
modes_asked true m wish = modes_after_wish m wish
modes_asked false m wish = m

-- the MODE that is sent after new options and the request in force
abbrev pub told_now : Bool → Negotiation → Option ℕ
told_now was n =
    modes_told (linemode n.options) (modes_before (differ was (linemode n.options)) n.modes) n.wish

-- the masks after new options and the request in force
abbrev pub masks_by : Bool → Negotiation → Modes
masks_by was n =
    modes_asked (linemode n.options) (modes_before (differ was (linemode n.options)) n.modes) n.wish

-- the server asks for its ECHO
abbrev pub is_due : Bool → Bool → Negotiation → Bool
is_due was set n = differ was (linemode n.options) || (is_some (told_now was n) || set)

-- the server's ECHO is wanted on these terms
abbrev pub echo_wanted : Negotiation → Flags → Bool
echo_wanted n f = wants_echo n.opening n.options n.modes.asked f

-- the options and masks after the server's message for ECHO
abbrev pub negotiation_after : Bool → Bool → Flags → Negotiation → Negotiation
negotiation_after was set f n =
    let wanted = wants_echo n.opening n.options (masks_by was n).asked f in
    record n { modes = masks_by was n; options = options_with_echo (is_due was set n) wanted n.options }

-- the items that are sent for new options: the whole table, the MODE, the message for ECHO
abbrev pub negotiation_items : Bool → Bool → Flags → Characters → Negotiation → List Item
negotiation_items was set f c n =
    new_table_items was (linemode n.options) c
    ++ (mode_items (told_now was n)
    ++ echo_items (is_due was set n) (wants_echo n.opening n.options (masks_by was n).asked f) n.options)

-- the part of an end that it negotiates
abbrev pub negotiation_of : End → Negotiation
negotiation_of old =
    let t = old.terms in
    record { options = t.options; modes = old.modes; wish = t.wish; opening = t.opening }

-- the end with these options and masks
abbrev pub with_negotiated : End → Negotiation → End
with_negotiated old n =
    record old { terms = record (old.terms) { options = n.options; wish = n.wish }; modes = n.modes }

-- the end after an option message, and its reply
abbrev pub negotiation_heard : End → Verb → ℕ → Negotiation
negotiation_heard old verb option =
    record (negotiation_of old) { options = options_after_word old.terms.options verb option }

-- the end after an option message
abbrev pub end_after_word : End → Verb → ℕ → End
end_after_word old verb option =
    with_negotiated old
    (negotiation_after (linemode old.terms.options) false old.terminal.settings.flags
    (negotiation_heard old verb option))

-- the reply to an option message, and what follows from it
abbrev pub says_words : End → Verb → ℕ → List Item
says_words old verb option =
    word_items (reply_to old.terms.options verb option)
    ++ negotiation_items (linemode old.terms.options) false old.terminal.settings.flags old.table
    (negotiation_heard old verb option)

-- the end after a request that is allowed
abbrev pub negotiation_wishing : End → ℕ → Negotiation
negotiation_wishing old mask = record (negotiation_of old) { wish = mask }

-- the end after a request, by the mask that it asks for
abbrev pub end_after_wish : End → Option ℕ → End
end_after_wish old None = old
end_after_wish old (Some mask) =
    with_negotiated old
    (negotiation_after (linemode old.terms.options) false old.terminal.settings.flags
    (negotiation_wishing old mask))

-- the items that a request sends, by the mask that it asks for
abbrev pub says_wished : End → Option ℕ → List Item
says_wished old None = []
says_wished old (Some mask) =
    negotiation_items (linemode old.terms.options) false old.terminal.settings.flags old.table
    (negotiation_wishing old mask)

-- a MODE is sent for it
abbrev pub sends_wished : End → Option ℕ → Bool
sends_wished old None = false
sends_wished old (Some mask) = is_some (told_now (linemode old.terms.options) (negotiation_wishing old mask))

-- the mask of a client's request
abbrev pub mask_wished : End → Bool → Option ℕ
mask_wished old edit = mask_for old.terminal.settings.flags (editing edit)

-- the end after a MODE, which acknowledges or requests
abbrev pub end_after_mode_by : End → ℕ → Option Bool → End
end_after_mode_by old mask None = record old { modes = modes_after_mode old.modes mask }
end_after_mode_by old mask (Some edit) = end_after_wish old (mask_wished old edit)

-- the items that the end sends after a MODE that requests
abbrev pub says_mode_by : End → Option Bool → List Item
says_mode_by old None = []
says_mode_by old (Some edit) = says_wished old (mask_wished old edit)

-- the end after a MODE of the client
abbrev pub end_after_mode : End → ℕ → End
end_after_mode old mask = end_after_mode_by old mask (wish_of_mask mask)

-- the items that the end sends after a MODE
abbrev pub says_mode_got : End → ℕ → List Item
says_mode_got old mask = says_mode_by old (wish_of_mask mask)

-- the end with other characters
abbrev pub with_chars : End → Characters → End
with_chars old c =
    let settings : Settings = record { flags = old.terminal.settings.flags; chars = c } in
    record old { table = c; terminal = record (old.terminal) { settings = settings } }

-- the end after a list of local characters
abbrev pub end_after_list : End → List Triple → End
end_after_list old triples = with_chars old (server_after old.table triples)

-- the end after a payload, and its reply
abbrev pub end_after_payload : End → Option Payload → End
end_after_payload old (Some (payload.Naws width height)) =
    record old { terminal = record (old.terminal) { width = width; height = height } }
end_after_payload old (Some (payload.Mode mask)) = end_after_mode old mask
end_after_payload old (Some (payload.Slc triples)) = end_after_list old triples
end_after_payload old _ = old

-- the reply to a payload
abbrev pub says_sub : End → Option Payload → List Item
says_sub old (Some (payload.Mode mask)) = says_mode_got old mask
says_sub old (Some (payload.Slc triples)) = list_replies old.table (Some (payload.Slc triples))
says_sub old _ = []

-- a key or command was refused: it had no effect but that the terminal may be shut
abbrev pub IsShut : End → End → Type 0
IsShut old new = (new ≡ old) ⊎ (new ≡ record old { terminal = shut_terminal old.terminal })

-- why the terminal refuses a key or command of this role
abbrev pub IsKeyCause : Terminal → Role → PtyFault → Type 0
IsKeyCause t r pty.TooFarAhead = IsTrue (gives_entry r) × (length t.entries ≡ max_waiting)
IsKeyCause t r pty.Memory = IsTrue (gives_entry r) × (length t.entries < max_waiting)
IsKeyCause t r pty.Closed = IsTrue t.closed

-- memory may be wanted for a payload
abbrev pub MayWantMemory : End → Option Payload → Type 0
MayWantMemory old payload = (says_sub old payload ≢ []) ⊎ IsList payload

-- the end after a byte, and after a command
abbrev pub role_of_typed : End → ℕ → Role
role_of_typed old byte = role_of_byte old.terminal.settings (edits old.modes.current) byte

-- the end after a byte of data: a key, or a byte of an edited line
abbrev pub end_after_byte : End → ℕ → End
end_after_byte old byte =
    let t = old.terminal in
    let edit = edits old.modes.current in
    let symbols = byte_shows t.settings edit (echoes old.terms.options) t.line byte in
    record old { terminal = terminal_after t (role_of_typed old byte) symbols }

-- the end after a command
abbrev pub end_after_command : End → Command → End
end_after_command old command =
    record old {
      terminal = terminal_after old.terminal (command_role command) (command_shows command);
      breaks = breaks_after old.breaks (Cmd command);
    }

-- AN ITEM: the end after it, and its reply
abbrev pub end_after_item : End → Item → End
end_after_item old (Byte byte) = end_after_byte old byte
end_after_item old Newline = end_after_byte old 10
end_after_item old (Cmd command) = end_after_command old command
end_after_item old (Neg verb option) = end_after_word old verb option
end_after_item old (Sub option params) = end_after_payload old (payload_at old.terms.options (Sub option params))

-- the reply to an item
abbrev pub says_item : End → Item → List Item
says_item old (Neg verb option) = says_words old verb option
says_item old (Sub option params) = says_sub old (payload_at old.terms.options (Sub option params))
says_item old _ = []

-- why it is refused: by the terminal; or memory runs out for a reply, or for a list
abbrev pub IsRefusedFor : End → Item → ServerFault → Type 0
IsRefusedFor old item (fault.Pty f) =
    IsKeyCause old.terminal (role_at old.terminal.settings (edits old.modes.current) item) f
IsRefusedFor old item fault.Memory = (says_item old item ≢ []) ⊎ IsList (payload_at old.terms.options item)
IsRefusedFor old item _ = ⊥

-- A CALL that takes the first entry: if none waits, GA is sent if it is due
abbrev pub is_none : List Entry → Bool
is_none [] = true
is_none (entry ∷ entries) = false

-- GA is due to a job that finds these entries
abbrev pub owes_ga : End → List Entry → Bool
owes_ga old entries = sends_ga (is_none entries) old.terms.options old.pulled

-- the end after a job took the first of these entries
abbrev pub end_after_take : End → List Entry → End
end_after_take old entries =
    record old {
      terminal = record (old.terminal) { entries = drop 1 entries };
      pulled = if owes_ga old entries then false else old.pulled;
    }

-- the items that are sent as a job takes the first of these entries
abbrev pub says_take : End → List Entry → List Item
says_take old entries = if owes_ga old entries then Cmd Ga ∷ [] else []

-- one that writes output: its first bytes, as many as fit
abbrev pub end_after_write : End → List ℕ → End
end_after_write old bytes =
    let t = old.terminal in
    let shown = output_symbols t.settings.flags (take (fitting_count t.queue bytes) bytes) in
    record old { terminal = record t { queue = t.queue ++ shown } }

-- the end after a pull of this number of symbols
abbrev pub end_after_pull : End → ℕ → End
end_after_pull old n =
    record old {
      terminal = record (old.terminal) { queue = drop n old.terminal.queue };
      pulled = old.pulled || nat_lt 0 (length (take n old.terminal.queue));
    }

-- one that sets the flag ECHO
abbrev pub flags_with_echo : End → Bool → Flags
flags_with_echo old on = record (old.terminal.settings.flags) { echo = on }

-- the end after its flag ECHO was set or cleared
abbrev pub end_after_echo : End → Bool → End
end_after_echo old on =
    let f = flags_with_echo old on in
    let t = old.terms in
    let options = options_with_echo true (wants_echo t.opening t.options old.modes.asked f) t.options in
    let settings : Settings = record { flags = f; chars = old.terminal.settings.chars } in
    record old {
      terms = record t { options = options };
      terminal = record (old.terminal) { settings = settings };
    }

-- ANY EVENT: the end after it, and what the end sends
abbrev pub end_after : End → Event → End
end_after old (got item) = end_after_item old item
end_after old took = end_after_take old old.terminal.entries
end_after old (wrote bytes) = end_after_write old bytes
end_after old (pulled n) = end_after_pull old n
end_after old (wished editing) = end_after_wish old (mask_for old.terminal.settings.flags editing)
end_after old (char_set func value) = with_chars old (with_slot old.table func value)
end_after old (echo_set on) = end_after_echo old on
end_after old (mask_set mask) = old

-- the items that the end sends at an event
abbrev pub says : End → Event → List Item
says old (got item) = says_item old item
says old took = says_take old old.terminal.entries
says old (wrote bytes) = []
says old (pulled n) = map data_of (take n old.terminal.queue)
says old (wished editing) = says_wished old (mask_for old.terminal.settings.flags editing)
says old (char_set func value) =
    character_items (linemode old.terms.options) (slot old.table func) func value
says old (echo_set on) =
    let t = old.terms in
    echo_items true (wants_echo t.opening t.options old.modes.asked (flags_with_echo old on)) t.options
says old (mask_set mask) = payload_items (forward_payload mask)

-- a request for this sends a MODE
abbrev pub sends_mode_now : End → Editing → Bool
sends_mode_now old editing = sends_wished old (mask_for old.terminal.settings.flags editing)

-- the items that the end sends at the event do not fit what is allocated
abbrev pub LacksRoomFor : {Z : Type 0} → End → Event → Vec ℕ Z → Type 0
LacksRoomFor old e out = LacksRoom out (length (spells (says old e)))

-- ITEMS, one after another
abbrev pub end_after_items : End → List Item → End
end_after_items old items = after_all end_after_item old items

-- the items that the end sends at items, one after another
abbrev pub says_items : End → List Item → List Item
says_items old items = said_all end_after_item says_item old items
