-- The replies of a server end, as items; its bytes are their spellings, one after another.
use Rattle.std.specs.Prelude.{ℕ, Bool, true, false, not, ◌&&◌, Option, Some, None, Result, Ok, Err, List, []}
use Rattle.std.specs.Prelude.{◌∷◌, ◌++◌, map, take, if◌then◌else◌}
use Rattle.tn_codes.specs.OptionCodes as option_code
use Rattle.tn_codes.specs.declared.{codes.{Command.TheVariants.Ga, Func.Func, Verb.Verb}, masks.Mask.Mask}
use Rattle.tn_codes.specs.declared.payloads.Payload.{Payload, TheVariants.{ForwardOn, ForwardOff, Slc}}
use Rattle.tn_codes.specs.declared.codes.Verb.TheVariants as verb
use Rattle.tn_discipline.specs.{Characters.{Characters, slot}, declared.termios.Flags.Flags}
use Rattle.tn_discipline.specs.declared.echo.Symbol.{Symbol}
use Rattle.tn_discipline.specs.declared.echo.Symbol.TheVariants as symbol
use Rattle.tn_linemode.specs.Exchange.{announcement, server_answers, server_is_asked, is_same_value}
use Rattle.tn_linemode.specs.{Triples.triple_of, Words.{word_items, payload_items, mode_items, list_items}}
use Rattle.tn_nvt.specs.declared.items.Item.{Item, TheVariants.{Byte, Newline, Cmd, Neg}}
use Rattle.tn_option.specs.{Options.{Options, reply_to, answer_to}, declared.q_method.AskFault.AskFault}
use Rattle.tn_option.specs.declared.q_method.Side.TheVariants.{Us}
use Rattle.tn_server.specs.Events.{Event, got, took, wrote, pulled, wished, char_set, echo_set, mask_set}
use Rattle.tn_server.specs.{Events.{History, begun, next}, Terms.{is_echo_set, chars_after}}
use Rattle.tn_server.specs.Terms.{Terms, terms, options, flags, chars, linemode, payload_at, options_after}
use Rattle.tn_server.specs.Terms.{asked_mask_of, wish_after, wish_at, wants_echo, mask_told, asks_echo}
use Rattle.tn_server.specs.{declared.wishes.Editing.Editing, Screen.{sends_ga, none_waits, due, queue}}
use Rattle.tn_server.specs.declared.openings.Opening.{Opening, TheVariants.{Keys, Lines}}

-- a request that is refused sends nothing
abbrev pub asked_word_items : Result (Option (Verb × ℕ)) AskFault → List Item
asked_word_items (Ok said) = word_items said
asked_word_items (Err fault) = []

-- the message that answers an option message
abbrev pub reply_items : Options → Event → List Item
reply_items o (got (Neg verb option)) = word_items (reply_to o verb option)
reply_items o _ = []

-- the whole table, if it is to be sent
abbrev pub table_items : Bool → Characters → List Item
table_items true c = list_items (announcement c)
table_items false c = []

-- the whole table, if LINEMODE comes on
abbrev pub new_table_items : Bool → Bool → Characters → List Item
new_table_items was on c = table_items (on && not was) c

-- the message for the server's ECHO, if it is due
abbrev pub echo_items : Bool → Bool → Options → List Item
echo_items true wanted o = asked_word_items (answer_to o Us option_code.echo wanted)
echo_items false wanted o = []

-- the items that the server sends once the options and perhaps a request are new, or the flag ECHO was set:
-- the whole table, the mode, its ECHO
abbrev pub items_by : Flags → Characters → Terms → Options → Option Editing → Bool → List Item
items_by f c t o editing set =
    let wish = wish_after f t.wish editing in
    new_table_items (linemode t.options) (linemode o) c
    ++ (mode_items (mask_told t o wish)
    ++ echo_items (asks_echo t.options o (mask_told t o wish) set) (wants_echo t.opening o (asked_mask_of o wish) f)
    o)

-- the items that the end sends at an event, the message that answers first
abbrev pub items_at : Flags → Characters → Terms → Event → List Item
items_at f c t e =
    reply_items t.options e
    ++ items_by f c t (options_after t.options e) (wish_at t.options e) (is_echo_set e)

-- the answers to a list of local characters, and then the table if the list asks for it
abbrev pub list_replies : Characters → Option Payload → List Item
list_replies c (Some (Slc triples)) =
    list_items (server_answers c triples)
    ++ table_items (server_is_asked triples) (chars_after c (Some (Slc triples)))
list_replies c _ = []

-- the triple of a character, if it is to be sent
abbrev pub triple_items : Bool → Func → Option ℕ → List Item
triple_items true func value = list_items (triple_of func value ∷ [])
triple_items false func value = []

-- a character that is changed, as its triple, if LINEMODE is on
abbrev pub character_items : Bool → Option ℕ → Func → Option ℕ → List Item
character_items on old func new = triple_items (on && not (is_same_value old new)) func new

-- RFC 1184, section 2.3: a forward mask by its 32 octets, or that there is none any more
abbrev pub forward_payload : Option Mask → Payload
forward_payload (Some mask) = ForwardOn (record { 0 = take 32 mask.0 })
forward_payload None = ForwardOff

-- The opening messages. For keys: DO LINEMODE, DO NAWS, WILL SUPPRESS-GO-AHEAD, DO SUPPRESS-GO-AHEAD, WILL
-- ECHO. For lines only DO LINEMODE and DO NAWS: WILL ECHO and WILL SUPPRESS-GO-AHEAD make a client without
-- LINEMODE send each key.
abbrev pub opening : Opening → List Item
opening Keys =
    Neg verb.DoIt option_code.linemode
    ∷ Neg verb.DoIt option_code.naws
    ∷ Neg verb.Will option_code.suppress_go_ahead
    ∷ Neg verb.DoIt option_code.suppress_go_ahead
    ∷ Neg verb.Will option_code.echo
    ∷ []
opening Lines = Neg verb.DoIt option_code.linemode ∷ Neg verb.DoIt option_code.naws ∷ []

-- a symbol of the screen is data
abbrev pub data_of : Symbol → Item
data_of (symbol.Byte byte) = Byte byte
data_of symbol.Newline = Newline

-- the items that an event makes the server send
abbrev pub replies : History → Event → List Item
replies h (got item) =
    items_at (flags h) (chars h) (terms h) (got item) ++ list_replies (chars h) (payload_at (options h) item)
replies h took = if sends_ga (none_waits h) (options h) (due h) then Cmd Ga ∷ [] else []
replies h (wrote bytes) = []
replies h (pulled n) = map data_of (take n (queue h))
replies h (wished editing) = items_at (flags h) (chars h) (terms h) (wished editing)
replies h (char_set func value) = character_items (linemode (options h)) (slot (chars h) func) func value
replies h (echo_set on) = items_at (flags (next h (echo_set on))) (chars h) (terms h) (echo_set on)
replies h (mask_set mask) = payload_items (forward_payload mask)

-- all items that were sent
abbrev pub items_said : History → List Item
items_said (begun o canon) = opening o
items_said (next h e) = items_said h ++ replies h e
