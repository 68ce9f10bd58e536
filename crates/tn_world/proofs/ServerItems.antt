-- The items that a server end sends, for any items that came and calls of its owner, show nothing on a screen
-- but what is pulled.
use Rattle.std.proofs.Common.{◌≡◌, ℕ, ◌+◌, nat_le, Bool, true, false, not, ◌&&◌, Option, Some, None, Result, Ok, Err, List, [], ◌∷◌, ◌++◌, length, take, refl}
use Rattle.std.proofs.{Common.{sym, ap, ◌∙◌, if◌then◌else◌, append-nil, append_assoc}, lemmas.Grind.flat_map-append}
use Rattle.tn_codes.specs.declared.{codes.{Command.TheVariants.Ga, Func.Func, Verb.Verb}, masks.Mask.Mask, payloads.Payload.Payload, triples.Triple.Triple}
use Rattle.tn_codes.specs.declared.payloads.Payload.TheVariants as payload
use Rattle.tn_discipline.specs.{Characters.{Characters, slot}, declared.{echo.Symbol.Symbol, termios.Flags.Flags}}
use Rattle.tn_linemode.specs.{Exchange.{announcement, server_answers, server_is_asked, is_same_value}, Modes.{edits, wish_of_mask}, Triples.triple_of}
use Rattle.tn_linemode.specs.Words.{word_items, payload_items, list_items, mode_items}
use Rattle.tn_nvt.specs.declared.items.Item.{Item, TheVariants.{Byte, Newline, Cmd, Neg, Sub}}
use Rattle.tn_option.specs.{Options.{Options, reply_to, answer_to}, declared.q_method.{AskFault.AskFault, Side.TheVariants.Us}}
use Rattle.tn_pty.specs.{Terminal.{queue_symbols, output_symbols, fitting_count}, Typing.command_shows}
use Rattle.tn_server.specs.{Answering.{StopsWithin, first_said}, Calls.End, Events.{Event, got, took, wrote, pulled, wished, char_set, echo_set, mask_set}}
use Rattle.tn_server.specs.{Replies.{asked_word_items, opening, table_items, echo_items, triple_items, forward_payload}, Screen.byte_shows, Steps.masks_by}
use Rattle.tn_server.specs.Steps.{told_now, is_due, negotiation_items, negotiation_heard, negotiation_wishing, end_after_wish, says_wished, mask_wished}
use Rattle.tn_server.specs.Steps.{end_after_mode_by, says_mode_by, end_after_payload, says_sub, says_item, end_after_item, owes_ga, flags_with_echo, end_after}
use Rattle.tn_server.specs.{Steps.{says, end_after_items, says_items}, declared.faults.ServerFault.ServerFault, Terms.{linemode, echoes, payload_at, mask_for}}
use Rattle.tn_server.specs.{Terms.{chars_after, wants_echo}, declared.{terms.Negotiation.Negotiation, openings.Opening.{Opening, TheVariants.{Keys, Lines}}}}
use Rattle.tn_client.specs.Screen.{item_shown}
use Rattle.tn_world.specs.Output.{text_of}

abbrev pub IsUnpulled : Event → Type 0
IsUnpulled (pulled n) = ⊥
IsUnpulled _ = Unit {0}

-- NO TEXT
both_none : (xs ys : List Item) → text_of xs ≡ [] → text_of ys ≡ [] → text_of (xs ++ ys) ≡ []
both_none xs ys a b = flat_map-append item_shown xs ys ∙ ap (λ (t : List ℕ). t ++ text_of ys) a ∙ b

word_none : (said : Option (Verb × ℕ)) → text_of (word_items said) ≡ []
word_none None = refl
word_none (Some said) = refl

asked_none : (r : Result (Option (Verb × ℕ)) AskFault) → text_of (asked_word_items r) ≡ []
asked_none (Ok said) = word_none said
asked_none (Err fault) = refl

listed_none : (triples : List Triple) → text_of (list_items triples) ≡ []
listed_none [] = refl
listed_none (t ∷ triples) = refl

table_none : (b : Bool) (c : Characters) → text_of (table_items b c) ≡ []
table_none true c = listed_none (announcement c)
table_none false c = refl

mode_none : (mask : Option ℕ) → text_of (mode_items mask) ≡ []
mode_none None = refl
mode_none (Some mask) = refl

echo_none : (due wanted : Bool) (o : Options) → text_of (echo_items due wanted o) ≡ []
echo_none true wanted o = asked_none (answer_to o Us 1 wanted)
echo_none false wanted o = refl

negotiated_none : (was set : Bool) (f : Flags) (c : Characters) (n : Negotiation) → text_of (negotiation_items was set f c n) ≡ []
negotiated_none was set f c n =
    let echo = echo_items (is_due was set n) (wants_echo n.opening n.options (masks_by was n).asked f) n.options in
    both_none (table_items (linemode n.options && not was) c) (mode_items (told_now was n) ++ echo) (table_none (linemode n.options && not was) c)
    (both_none (mode_items (told_now was n)) echo (mode_none (told_now was n)) (echo_none (is_due was set n) (wants_echo n.opening n.options (masks_by was n).asked f) n.options))

wished_none : (old : End) (mask : Option ℕ) → text_of (says_wished old mask) ≡ []
wished_none old None = refl
wished_none old (Some mask) = negotiated_none (linemode old.terms.options) false old.terminal.settings.flags old.table (negotiation_wishing old mask)

mode_got_none : (old : End) (wish : Option Bool) → text_of (says_mode_by old wish) ≡ []
mode_got_none old None = refl
mode_got_none old (Some edit) = wished_none old (mask_wished old edit)

sub_none : (old : End) (p : Option Payload) → text_of (says_sub old p) ≡ []
sub_none old (Some (payload.Mode mask)) = mode_got_none old (wish_of_mask mask)
sub_none old (Some (payload.Slc triples)) =
    both_none (list_items (server_answers old.table triples)) (table_items (server_is_asked triples) (chars_after old.table (Some (payload.Slc triples))))
    (listed_none (server_answers old.table triples)) (table_none (server_is_asked triples) (chars_after old.table (Some (payload.Slc triples))))
sub_none old _ = refl

item_none : (old : End) (item : Item) → text_of (says_item old item) ≡ []
item_none old (Neg verb option) =
    both_none (word_items (reply_to old.terms.options verb option)) _ (word_none (reply_to old.terms.options verb option))
    (negotiated_none (linemode old.terms.options) false old.terminal.settings.flags old.table (negotiation_heard old verb option))
item_none old (Sub option params) = sub_none old (payload_at old.terms.options (Sub option params))
item_none old _ = refl

triple_none : (told : Bool) (func : Func) (value : Option ℕ) → text_of (triple_items told func value) ≡ []
triple_none true func value = listed_none (triple_of func value ∷ [])
triple_none false func value = refl

ga_none : (b : Bool) → text_of (if b then Cmd Ga ∷ [] else []) ≡ []
ga_none true = refl
ga_none false = refl

mask_none : (mask : Option Mask) → text_of (payload_items (forward_payload mask)) ≡ []
mask_none (Some mask) = refl
mask_none None = refl

pub says_none : (old : End) (e : Event) → IsUnpulled e → text_of (says old e) ≡ []
says_none old (got item) is = item_none old item
says_none old took is = ga_none (owes_ga old old.terminal.entries)
says_none old (wrote bytes) is = refl
says_none old (pulled n) is = absurd is
says_none old (wished editing) is = wished_none old (mask_for old.terminal.settings.flags editing)
says_none old (char_set func value) is = triple_none (linemode old.terms.options && not (is_same_value (slot old.table func) value)) func value
says_none old (echo_set on) is = echo_none true (wants_echo old.terms.opening old.terms.options old.modes.asked (flags_with_echo old on)) old.terms.options
says_none old (mask_set mask) is = mask_none mask

pub opening_none : (o : Opening) → text_of (opening o) ≡ []
opening_none Keys = refl
opening_none Lines = refl

-- items that came, one after another
pub items_none : (old : End) (items : List Item) → text_of (says_items old items) ≡ []
items_none old [] = refl
items_none old (item ∷ items) = both_none (says_item old item) (says_items (end_after_item old item) items) (item_none old item) (items_none (end_after_item old item) items)

-- a prefix of what shows nothing
front_none : (part rest : List Item) → text_of (part ++ rest) ≡ [] → text_of part ≡ []
front_none part rest none = empty (text_of part) (text_of rest) (sym (flat_map-append item_shown part rest) ∙ none)
  where
    empty : (xs ys : List ℕ) → xs ++ ys ≡ [] → xs ≡ []
    empty [] ys e = refl
    empty (x ∷ xs) ys e = absurd (cc)

first_none : (end : End) (left : List Item) → text_of (first_said end left) ≡ []
first_none end [] = refl
first_none end (item ∷ left) = item_none end item

pub halts_none : (old new : End) (piece before after : List ℕ) (fault : ServerFault) → (x : StopsWithin old piece fault before after new)
    → text_of (says_items old x.done ++ x.part) ≡ []
halts_none old new piece before after fault x =
    both_none (says_items old x.done) x.part (items_none old x.done)
    (front_none x.part x.rest (ap text_of (sym x.begins) ∙ first_none (end_after_items old x.done) x.left))

-- WHAT WAITS TO BE PULLED only grows, but for what is pulled
fitted_more : (b : Bool) (q symbols : List Symbol) → (more : List Symbol) × ((if b then q ++ symbols else q) ≡ q ++ more)
fitted_more true q symbols = (symbols, refl)
fitted_more false q symbols = ([], sym (append-nil q))

wished_queue : (old : End) (mask : Option ℕ) → (end_after_wish old mask).terminal.queue ≡ old.terminal.queue
wished_queue old None = refl
wished_queue old (Some mask) = refl

mode_queue : (old : End) (mask : ℕ) (wish : Option Bool) → (end_after_mode_by old mask wish).terminal.queue ≡ old.terminal.queue
mode_queue old mask None = refl
mode_queue old mask (Some edit) = wished_queue old (mask_wished old edit)

sub_queue : (old : End) (p : Option Payload) → (end_after_payload old p).terminal.queue ≡ old.terminal.queue
sub_queue old (Some (payload.Mode mask)) = mode_queue old mask (wish_of_mask mask)
sub_queue old _ = refl

-- nothing may join it too
as_it_was : (old new : List Symbol) → new ≡ old → (more : List Symbol) × (new ≡ old ++ more)
as_it_was old new is = ([], is ∙ sym (append-nil old))

item_grows : (old : End) (item : Item) → (more : List Symbol) × ((end_after_item old item).terminal.queue ≡ old.terminal.queue ++ more)
item_grows old (Byte byte) =
    let q = old.terminal.queue in
    let symbols = byte_shows old.terminal.settings (edits old.modes.current) (echoes old.terms.options) old.terminal.line byte in
    fitted_more (nat_le (length q + length symbols) queue_symbols) q symbols
item_grows old Newline =
    let q = old.terminal.queue in
    let symbols = byte_shows old.terminal.settings (edits old.modes.current) (echoes old.terms.options) old.terminal.line 10 in
    fitted_more (nat_le (length q + length symbols) queue_symbols) q symbols
item_grows old (Cmd command) =
    let q = old.terminal.queue in
    fitted_more (nat_le (length q + length (command_shows command)) queue_symbols) q (command_shows command)
item_grows old (Neg verb option) = as_it_was old.terminal.queue _ refl
item_grows old (Sub option params) = as_it_was old.terminal.queue _ (sub_queue old (payload_at old.terms.options (Sub option params)))

pub queue_grows : (old : End) (e : Event) → IsUnpulled e → (more : List Symbol) × ((end_after old e).terminal.queue ≡ old.terminal.queue ++ more)
queue_grows old (got item) is = item_grows old item
queue_grows old (wrote bytes) is = (output_symbols old.terminal.settings.flags (take (fitting_count old.terminal.queue bytes) bytes), refl)
queue_grows old (pulled n) is = absurd is
queue_grows old (wished editing) is = as_it_was old.terminal.queue _ (wished_queue old (mask_for old.terminal.settings.flags editing))
queue_grows old _ is = as_it_was old.terminal.queue _ refl

pub items_grow : (old : End) (items : List Item) → (more : List Symbol) × ((end_after_items old items).terminal.queue ≡ old.terminal.queue ++ more)
items_grow old [] = as_it_was old.terminal.queue _ refl
items_grow old (item ∷ items) =
    let first = item_grows old item in
    let later = items_grow (end_after_item old item) items in
    (first.0 ++ later.0, later.1 ∙ ap (λ (q : List Symbol). q ++ later.0) first.1 ∙ append_assoc old.terminal.queue first.0 later.0)
