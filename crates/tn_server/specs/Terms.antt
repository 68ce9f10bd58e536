-- The terms on which a server end has agreed with its client: options, special characters and the mode of
-- editing.
use Rattle.std.specs.Prelude.{ℕ, Bool, true, false, not, ◌&&◌, ◌||◌, Option, Some, None, is_some, [], ◌∷◌}
use Rattle.std.specs.Prelude.{if◌then◌else◌}
use Rattle.tn_codes.specs.OptionCodes as option_code
use Rattle.tn_codes.specs.declared.payloads.Payload.{Payload, TheVariants.{Mode, Slc}}
use Rattle.tn_discipline.specs.{Characters.{Characters, with_slot}, declared.termios.Flags.Flags}
use Rattle.tn_discipline.specs.declared.termios.Settings.{Settings}
use Rattle.tn_linemode.specs.Modes.{mode_of, is_acknowledged, edits, mask_sent, wish_of_mask}
use Rattle.tn_linemode.specs.{Exchange.server_after, Words.{payload_under, differ}}
use Rattle.tn_nvt.specs.declared.items.Item.{Item, TheVariants.{Neg, Sub}}
use Rattle.tn_option.specs.Options.{Options, new_options, options_after_word, options_after_wish, state_of}
use Rattle.tn_option.specs.{Options.is_yes, declared.negotiation.Agree.Agree}
use Rattle.tn_option.specs.declared.q_method.Side.TheVariants.{Us, Them}
use Rattle.tn_server.specs.Events.{Event, got, wished, char_set, echo_set, History, begun, next}
use Rattle.tn_server.specs.declared.openings.Opening.{Opening, TheVariants.{Keys, Lines}}
use Rattle.tn_server.specs.declared.wishes.Editing.{Editing, TheVariants.{Remote, Local}}

-- the client's LINEMODE, NAWS and SUPPRESS-GO-AHEAD are agreed to, and the server's own ECHO and
-- SUPPRESS-GO-AHEAD
abbrev pub agreement : Agree
agreement =
    record { us = true ∷ true ∷ false ∷ false ∷ []; them = false ∷ true ∷ true ∷ true ∷ [] }

-- the options after the requests with which each end opens, in their order
abbrev pub options_for_lines : Options
options_for_lines =
    options_after_wish
    (options_after_wish (new_options agreement) Them option_code.linemode true)
    Them option_code.naws true

-- the options after the opening requests: an end that opens for keys has three more
abbrev pub opening_options : Opening → Options
opening_options Keys =
    options_after_wish
    (options_after_wish
    (options_after_wish options_for_lines Us option_code.suppress_go_ahead true)
    Them option_code.suppress_go_ahead true)
    Us option_code.echo true
opening_options Lines = options_for_lines

-- LINEMODE is on at the client's side
abbrev pub linemode : Options → Bool
linemode o = is_yes (state_of o Them option_code.linemode)

-- ECHO of the server (RFC 857)
abbrev pub echoes : Options → Bool
echoes o = is_yes (state_of o Us option_code.echo)

-- the payload of an item, if its option is on at the client's side
abbrev pub payload_at : Options → Item → Option Payload
payload_at o (Sub option params) = payload_under (is_yes (state_of o Them option)) option params
payload_at o _ = None

-- Local is allowed if a carriage return ends the line as a line feed does
abbrev pub allows_local : Flags → Bool
allows_local flags = flags.icrnl && (not flags.inlcr && not flags.igncr)

-- RFC 1184, section 2.2: Remote is no mode bit; Local is EDIT, with TRAPSIG if ISIG is set
abbrev pub mask_for : Flags → Editing → Option ℕ
mask_for flags Remote = Some 0
mask_for flags Local = if allows_local flags then Some (if flags.isig then 3 else 1) else None

-- this mask, or the one before if there is none
abbrev pub mask_or : ℕ → Option ℕ → ℕ
mask_or before None = before
mask_or before (Some mask) = mask

-- a request that is not allowed changes nothing
abbrev pub wish_after : Flags → ℕ → Option Editing → ℕ
wish_after flags before None = before
wish_after flags before (Some editing) = mask_or before (mask_for flags editing)

-- the side that a client requests by EDIT
abbrev pub editing : Bool → Editing
editing true = Local
editing false = Remote

-- the side that a client requests, if it requests one
abbrev pub editing_of : Option Bool → Option Editing
editing_of None = None
editing_of (Some edit) = Some (editing edit)

-- a MODE without acknowledgement is the client's request
abbrev pub wish_in : Option Payload → Option Editing
wish_in (Some (Mode mask)) = editing_of (wish_of_mask mask)
wish_in _ = None

-- the request of an event, if it is one
abbrev pub wish_at : Options → Event → Option Editing
wish_at o (got item) = wish_in (payload_at o item)
wish_at o (wished editing) = Some editing
wish_at o _ = None

-- the flags, of which only ECHO changes
abbrev pub flags : History → Flags
flags (begun opening canon) = canon.settings.flags
flags (next h (echo_set on)) = record (flags h) { echo = on }
flags (next h _) = flags h

-- the options, the mask of the last request that was allowed, and how the end opened, which no event changes
pub record Terms : Type 0 where
  pub options : Options
  pub wish : ℕ
  pub opening : Opening

-- the mask that the client was asked for: that of the last request, while LINEMODE is on
abbrev pub asked_mask_while : Bool → ℕ → ℕ
asked_mask_while true wish = mode_of wish
asked_mask_while false wish = 0

-- the mask that the client was asked for, by the options and the request
abbrev pub asked_mask_of : Options → ℕ → ℕ
asked_mask_of o wish = asked_mask_while (linemode o) wish

-- the MODE that is sent if LINEMODE is on: the requested one, unless it was asked already
abbrev pub mode_sent : Bool → ℕ → ℕ → Option ℕ
mode_sent true before wish = mask_sent (record { asked = before; current = 0 }) wish
mode_sent false before wish = None

-- the options after an option message
abbrev pub options_after : Options → Event → Options
options_after o (got (Neg verb option)) = options_after_word o verb option
options_after o _ = o

-- a client without LINEMODE edits its lines if the end opened for lines; else it sends each key
abbrev pub edits_unasked : Opening → Bool
edits_unasked Keys = false
edits_unasked Lines = true

-- the client edits: while LINEMODE is on, if the mask that it was asked for has EDIT
abbrev pub client_edits : Opening → Options → ℕ → Bool
client_edits opening o asked_mask = if linemode o then edits asked_mask else edits_unasked opening

-- ECHO is the server's if the client does not edit, or if the flag ECHO is clear: then neither end echoes
abbrev pub wants_echo : Opening → Options → ℕ → Flags → Bool
wants_echo opening o asked_mask flags = not (client_edits opening o asked_mask) || not flags.echo

-- the event sets or clears the flag ECHO
abbrev pub is_echo_set : Event → Bool
is_echo_set (echo_set on) = true
is_echo_set _ = false

-- LINEMODE came on or went off
abbrev pub changes : Options → Options → Bool
changes old new = differ (linemode old) (linemode new)

-- the server asks for its ECHO again after each change of LINEMODE, each request that sends, and each change
-- of the flag
abbrev pub asks_echo : Options → Options → Option ℕ → Bool → Bool
asks_echo old new told set = changes old new || (is_some told || set)

-- the options after the server's message for ECHO, if it is due
abbrev pub options_with_echo : Bool → Bool → Options → Options
options_with_echo true wanted o = options_after_wish o Us option_code.echo wanted
options_with_echo false wanted o = o

-- the MODE that is sent once these are the options and this is the request
abbrev pub mask_told : Terms → Options → ℕ → Option ℕ
mask_told t o wish = mode_sent (linemode o) (asked_mask_of t.options t.wish) wish

-- the terms once the options and perhaps a request are new, or the flag ECHO was set
abbrev pub terms_by : Flags → Terms → Options → Option Editing → Bool → Terms
terms_by f t o editing set =
    let wish = wish_after f t.wish editing in
    record t {
      options = options_with_echo (asks_echo t.options o (mask_told t o wish) set)
          (wants_echo t.opening o (asked_mask_of o wish) f) o;
      wish = wish;
    }

-- the terms after an event, with the flags after it
abbrev pub terms_after : Flags → Terms → Event → Terms
terms_after f t e = terms_by f t (options_after t.options e) (wish_at t.options e) (is_echo_set e)

-- the terms after a history
abbrev pub terms : History → Terms
terms (begun opening canon) = record { options = opening_options opening; wish = 0; opening = opening }
terms (next h (got item)) = terms_after (flags h) (terms h) (got item)
terms (next h (wished editing)) = terms_after (flags h) (terms h) (wished editing)
terms (next h (echo_set on)) = terms_after (flags (next h (echo_set on))) (terms h) (echo_set on)
terms (next h _) = terms h

-- the options after a history
abbrev pub options : History → Options
options h = (terms h).options

-- the mask that the client was asked for, after a history
abbrev pub asked_mask : History → ℕ
asked_mask h = asked_mask_of (options h) (terms h).wish

-- the mask in force after an item: none after a change of LINEMODE, else that of a MODE which acknowledges
abbrev pub mask_after : Bool → ℕ → Option Payload → ℕ
mask_after true mode payload = 0
mask_after false mode (Some (Mode mask)) = if is_acknowledged mask then mode_of mask else mode
mask_after false mode _ = mode

-- the mask in force after a history
abbrev pub mode : History → ℕ
mode (begun opening canon) = 0
mode (next h (got item)) =
    mask_after (changes (options h) (options (next h (got item)))) (mode h) (payload_at (options h) item)
mode (next h _) = mode h

-- the special characters after a list of local characters
abbrev pub chars_after : Characters → Option Payload → Characters
chars_after c (Some (Slc triples)) = server_after c triples
chars_after c _ = c

-- the characters in force: the opening ones, changed by each adopted triple, each reset and each call
abbrev pub chars : History → Characters
chars (begun opening canon) = canon.settings.chars
chars (next h (got item)) = chars_after (chars h) (payload_at (options h) item)
chars (next h (char_set func value)) = with_slot (chars h) func value
chars (next h _) = chars h

-- the flags and special characters after a history
abbrev pub settings : History → Settings
settings h = record { flags = flags h; chars = chars h }

-- a request for this sends a MODE
abbrev pub sends_mode : History → Editing → Bool
sends_mode h editing =
    is_some (mask_told (terms h) (options h) (wish_after (flags h) (terms h).wish (Some editing)))
