-- Each item that a server end sends fits a stream.
use Rattle.std.proofs.Common.{ℕ, Bool, true, false, not, ◌&&◌, Option, Some, None, Result, Ok, Err, List, [], ◌∷◌, ◌++◌, map, take, if◌then◌else◌, arith, lit≤}
use Rattle.std.proofs.{Common.length-take, lemmas.List.Elements.{All-nil, All-cons, All-append}}
use Rattle.std.specs.Prelude.{All}
use Rattle.tn_codes.specs.{declared.{codes.{Command.TheVariants.Ga, Func.Func, Verb.Verb}, masks.Mask.Mask, payloads.Payload.Payload}, Payloads.parameters_of}
use Rattle.tn_codes.specs.declared.payloads.Payload.TheVariants.{ForwardOn, ForwardOff, Slc}
use Rattle.tn_codes.specs.declared.codes.Verb.TheVariants as verb
use Rattle.tn_discipline.specs.{Characters.{Characters, slot}, declared.{echo.Symbol.Symbol, termios.Flags.Flags}}
use Rattle.tn_discipline.specs.declared.echo.Symbol.TheVariants as symbol
use Rattle.tn_linemode.specs.{Exchange.{announcement, server_answers, server_next, server_answer, is_same_value}, Triples.triple_of}
use Rattle.tn_linemode.specs.Words.{payload_items, list_items, mode_items}
use Rattle.tn_nvt.specs.{Spelling.Fits, declared.items.Item.{Item, TheVariants.{Byte, Newline, Cmd, Neg, Sub}}}
use Rattle.tn_option.specs.{Options.{Options, reply_to, answer_to, state_of, is_yes}, declared.q_method.{AskFault.AskFault, Side.TheVariants.{Us, Them}}}
use Rattle.tn_server.specs.Events.{History, Event, begun, next, got, took, wrote, pulled, wished, char_set, echo_set, mask_set}
use Rattle.tn_server.specs.Terms.{Terms, terms, options, flags, chars, linemode, payload_at, options_after, wish_at, is_echo_set, wish_after, mask_told}
use Rattle.tn_server.specs.{Terms.{asks_echo, asked_mask_of, wants_echo, chars_after}, Replies.{forward_payload, data_of, opening, replies, items_said}}
use Rattle.tn_server.specs.{Screen.{queue, sends_ga, none_waits, due}, declared.{wishes.Editing.Editing, openings.Opening.{Opening, TheVariants.{Keys, Lines}}}}
use Rattle.tn_server.specs.Replies.{asked_word_items, reply_items, table_items, new_table_items, echo_items, items_by, items_at, list_replies, triple_items}
use Rattle.tn_codes.proofs.lemmas.Masks.{length-trimmed}
use Rattle.tn_linemode.proofs.lemmas.{Answering.length-answers_along, Fitting.{word-fits, mode-fits, list-fits}, Listing.{IsShortOrNone, short_under}}
use Rattle.tn_server.proofs.Listing.{length-announcement}

asked_fits : (r : Result (Option (Verb × ℕ)) AskFault) → All Fits (asked_word_items r)
asked_fits (Ok said) = word-fits said
asked_fits (Err fault) = All-nil Fits

table_fits : (asked : Bool) (c : Characters) → All Fits (table_items asked c)
table_fits true c = list-fits (announcement c) (omega (arith, length-announcement c))
table_fits false c = All-nil Fits

echo_fits : (due wanted : Bool) (o : Options) → All Fits (echo_items due wanted o)
echo_fits true wanted o = asked_fits (answer_to o Us 1 wanted)
echo_fits false wanted o = All-nil Fits

says_by_fits : (f : Flags) (c : Characters) (t : Terms) (o : Options) (editing : Option Editing) (set : Bool) → All Fits (items_by f c t o editing set)
says_by_fits f c t o editing set =
    let wish = wish_after f t.wish editing in
    let echo = echo_items (asks_echo t.options o (mask_told t o wish) set) (wants_echo t.opening o (asked_mask_of o wish) f) o in
    All-append Fits (new_table_items (linemode t.options) (linemode o) c) (mode_items (mask_told t o wish) ++ echo)
    (table_fits (linemode o && not (linemode t.options)) c)
    (All-append Fits (mode_items (mask_told t o wish)) echo (mode-fits (mask_told t o wish))
    (echo_fits (asks_echo t.options o (mask_told t o wish) set) (wants_echo t.opening o (asked_mask_of o wish) f) o))

back_fits : (o : Options) (e : Event) → All Fits (reply_items o e)
back_fits o (got (Neg v option)) = word-fits (reply_to o v option)
back_fits o _ = All-nil Fits

says_fits : (f : Flags) (c : Characters) (t : Terms) (e : Event) → All Fits (items_at f c t e)
says_fits f c t e =
    All-append Fits (reply_items t.options e) (items_by f c t (options_after t.options e) (wish_at t.options e) (is_echo_set e)) (back_fits t.options e)
    (says_by_fits f c t (options_after t.options e) (wish_at t.options e) (is_echo_set e))

few_at : (o : Options) (item : Item) → IsShortOrNone (payload_at o item)
few_at o (Sub option params) = short_under (is_yes (state_of o Them option)) option params
few_at o _ = tt

answered_fits : (c : Characters) (p : Option Payload) → IsShortOrNone p → All Fits (list_replies c p)
unfolding server_answers
answered_fits c (Some (Slc triples)) few =
    All-append Fits (list_items (server_answers c triples)) _ (list-fits (server_answers c triples)
    (omega (arith, length-answers_along server_next server_answer c triples, few)))
    (table_fits _ (chars_after c (Some (Slc triples))))
answered_fits c _ few = All-nil Fits

triple_fits : (told : Bool) (func : Func) (value : Option ℕ) → All Fits (triple_items told func value)
triple_fits true func value = list-fits (triple_of func value ∷ []) (lit≤ tt)
triple_fits false func value = All-nil Fits

data_fits : (symbols : List Symbol) → All Fits (map data_of symbols)
data_fits [] = All-nil Fits
data_fits (symbol.Byte b ∷ symbols) = All-cons Fits (Byte b) (map data_of symbols) tt (data_fits symbols)
data_fits (symbol.Newline ∷ symbols) = All-cons Fits Newline (map data_of symbols) tt (data_fits symbols)

ga_fits : (b : Bool) → All Fits (if b then Cmd Ga ∷ [] else [])
ga_fits true = All-cons Fits (Cmd Ga) [] tt (All-nil Fits)
ga_fits false = All-nil Fits

mask_fits : (mask : Option Mask) → All Fits (payload_items (forward_payload mask))
mask_fits (Some mask) =
    let octets = take 32 mask.0 in
    All-cons Fits (Sub 34 (parameters_of (ForwardOn (record { 0 = octets })))) [] (omega (arith, length-trimmed octets, length-take 32 mask.0)) (All-nil Fits)
mask_fits None = All-cons Fits (Sub 34 (parameters_of ForwardOff)) [] (omega arith) (All-nil Fits)

pub replies-fit : (h : History) (e : Event) → All Fits (replies h e)
replies-fit h (got item) =
    All-append Fits (items_at (flags h) (chars h) (terms h) (got item)) (list_replies (chars h) (payload_at (options h) item))
    (says_fits (flags h) (chars h) (terms h) (got item)) (answered_fits (chars h) (payload_at (options h) item) (few_at (options h) item))
replies-fit h took = ga_fits (sends_ga (none_waits h) (options h) (due h))
replies-fit h (wrote bytes) = All-nil Fits
replies-fit h (pulled n) = data_fits (take n (queue h))
replies-fit h (wished editing) = says_fits (flags h) (chars h) (terms h) (wished editing)
replies-fit h (char_set func value) =
    triple_fits (linemode (options h) && not (is_same_value (slot (chars h) func) value)) func value
replies-fit h (echo_set on) = says_fits (flags (next h (echo_set on))) (chars h) (terms h) (echo_set on)
replies-fit h (mask_set mask) = mask_fits mask

neg_fits : (v : Verb) (option : ℕ) (rest : List Item) → All Fits rest → All Fits (Neg v option ∷ rest)
neg_fits v option rest fit = All-cons Fits (Neg v option) rest tt fit

words_fit : (words : List (Verb × ℕ)) → All Fits (map (λ w. Neg w.0 w.1) words)
words_fit [] = All-nil Fits
words_fit (w ∷ words) = neg_fits w.0 w.1 (map (λ w. Neg w.0 w.1) words) (words_fit words)

pub opening-fits : (o : Opening) → All Fits (opening o)
opening-fits Keys = words_fit ((verb.DoIt, 34) ∷ (verb.DoIt, 31) ∷ (verb.Will, 3) ∷ (verb.DoIt, 3) ∷ (verb.Will, 1) ∷ [])
opening-fits Lines = words_fit ((verb.DoIt, 34) ∷ (verb.DoIt, 31) ∷ [])

pub sent-fit : (h : History) → All Fits (items_said h)
sent-fit (begun o canon) = opening-fits o
sent-fit (next h e) = All-append Fits (items_said h) (replies h e) (sent-fit h) (replies-fit h e)
