-- The step of an end at an item is the one by its terms, if the parts that hold the same fact agree.
use Rattle.std.proofs.Common.{◌≡◌, ℕ, Bool, true, false, Option, Some, None, List, [], ◌++◌, refl, sym, ap, ◌∙◌, if◌then◌else◌, append-nil}
use Rattle.tn_codes.specs.declared.{codes.Verb.Verb, payloads.Payload.{Payload, TheVariants.Mode}}
use Rattle.tn_discipline.specs.{Characters.Characters, declared.{reads.Entry.Entry, echo.Symbol.Symbol, termios.Settings.Settings}}
use Rattle.tn_discipline.specs.declared.keys.Role.TheVariants as role
use Rattle.tn_linemode.specs.{Modes.{Modes, edits, mode_of, is_acknowledged}, Words.differ}
use Rattle.tn_nvt.specs.declared.items.Item.{Item, TheVariants.{Neg, Sub}}
use Rattle.tn_option.specs.Options.{Options, options_after_word}
use Rattle.tn_pty.specs.{Terminal.{Terminal, queue_with}, Typing.terminal_after}
use Rattle.tn_server.specs.{Events.{History, got, breaks_after}, Terms.{payload_at, wish_in, options_after, linemode, echoes, wish_after}, Lines.role_at}
use Rattle.tn_server.specs.Terms.{Terms, terms_by, mask_told, asks_echo, wants_echo, asked_mask_of, asked_mask_while, changes, mask_after, chars_after}
use Rattle.tn_server.specs.{Screen.{shows, size_after}, Replies.{items_by, reply_items, list_replies}, Calls.{End, LeadsTo}, declared.wishes.Editing.Editing}
use Rattle.tn_server.specs.Steps.{end_after_word, says_words, end_after_wish, mask_wished, end_after_mode, with_negotiated, negotiation_after}
use Rattle.tn_server.specs.declared.terms.Negotiation.{Negotiation}
use Rattle.tn_server.proofs.{lemmas.Terms.{terms_stay, says_nothing, differ_self, echo_keeps_linemode}, Settling.{Agree, terms_settle, masks_settle}}
use Rattle.tn_server.proofs.{Settling.says_settle, Standings.{terms_of_event, terminal_by_terms, end_by_terms, says_by_terms}}

-- the parts of an end that hold the same fact agree
pub record IsSound (old : End) : Type 0 where
  pub masks : Agree old.modes old.terms
  pub chars : old.table ≡ old.terminal.settings.chars

pub sound : (h : History) (old : End) → LeadsTo h old → IsSound old
sound h old s = record {
  masks = ap (λ (m : Modes). m.asked) s.modes ∙ ap (λ (t : Terms). asked_mask_of t.options t.wish) (sym s.terms);
  chars = s.table ∙ ap (λ (x : Settings). x.chars) (sym s.settings);
}

-- the terminal once nothing is typed
pub fitted_nothing : (queue : List Symbol) → queue_with queue [] ≡ queue
fitted_nothing queue = go _
  where
    go : (b : Bool) → (if b then queue ++ [] else queue) ≡ queue
    go true = append-nil queue
    go false = refl

typed_nothing : (t : Terminal) → terminal_after t role.Ignored [] ≡ t
typed_nothing t =
    ap (λ (xs : List Entry). record t { entries = xs; queue = queue_with t.queue [] }) (append-nil t.entries)
    ∙ ap (λ (q : List Symbol). record t { queue = q }) (fitted_nothing t.queue)

abbrev pub with_all : End → Terms → Option Payload → Terminal → End
with_all old t payload terminal =
    record old {
      terms = t;
      modes = record { asked = asked_mask_of t.options t.wish; current = mask_after (changes old.terms.options t.options) old.modes.current payload };
      table = chars_after old.table payload;
      terminal = terminal;
    }

-- nothing more is agreed
pub still : (old : End) (payload : Option Payload) (terminal : Terminal) → Agree old.modes old.terms
    → with_all old old.terms payload terminal ≡ record old {
      modes = record { asked = old.modes.asked; current = mask_after false old.modes.current payload };
      table = chars_after old.table payload;
      terminal = terminal;
    }
still old payload terminal e =
    ap (λ (b : Bool). record old {
      modes = record { asked = asked_mask_of old.terms.options old.terms.wish; current = mask_after b old.modes.current payload };
      table = chars_after old.table payload;
      terminal = terminal;
    }) (differ_self (linemode old.terms.options))
    ∙ ap (λ (a : ℕ). record old {
      modes = record { asked = a; current = mask_after false old.modes.current payload };
      table = chars_after old.table payload;
      terminal = terminal;
    }) (sym e)

abbrev pub shown_by : End → Item → List Symbol
shown_by old item = shows old.terminal.settings (edits old.modes.current) (echoes old.terms.options) old.terminal.line item

abbrev pub typed_by : End → Item → Terminal
typed_by old item = terminal_after old.terminal (role_at old.terminal.settings (edits old.modes.current) item) (shown_by old item)

abbrev pub set_by : End → Terminal → Option Payload → Terminal
set_by old t payload =
    record t {
      settings = record { flags = old.terminal.settings.flags; chars = chars_after old.table payload };
      width = (size_after (old.terminal.width, old.terminal.height) payload).0;
      height = (size_after (old.terminal.width, old.terminal.height) payload).1;
    }

-- an item that changes no option and brings this payload, whose request is none or is not allowed
quiet_terms : (old : End) (item : Item) (payload : Option Payload) → options_after old.terms.options (got item) ≡ old.terms.options
    → payload_at old.terms.options item ≡ payload → wish_after old.terminal.settings.flags old.terms.wish (wish_in payload) ≡ old.terms.wish
    → terms_of_event old (got item) ≡ old.terms
quiet_terms old item payload h p w =
    let f = old.terminal.settings.flags in
    let t = old.terms in
    ap (λ (o : Options). terms_by f t o (wish_in (payload_at t.options item)) false) h
    ∙ ap (λ (x : Option Payload). terms_by f t t.options (wish_in x) false) p
    ∙ terms_stay f t (wish_in payload) w

quiet_got : (old : End) (item : Item) (payload : Option Payload) → options_after old.terms.options (got item) ≡ old.terms.options
    → payload_at old.terms.options item ≡ payload → wish_after old.terminal.settings.flags old.terms.wish (wish_in payload) ≡ old.terms.wish → IsSound old
    → end_by_terms old item ≡ record old {
      modes = record { asked = old.modes.asked; current = mask_after false old.modes.current payload };
      table = chars_after old.table payload;
      terminal = set_by old (typed_by old item) payload;
      breaks = breaks_after old.breaks item;
    }
quiet_got old item payload h p w s =
    let end : End = record old { breaks = breaks_after old.breaks item } in
    ap (λ (t : Terms). with_all end t (payload_at old.terms.options item) (terminal_by_terms old item (payload_at old.terms.options item)))
    (quiet_terms old item payload h p w)
    ∙ ap (λ (x : Option Payload). with_all end old.terms x (terminal_by_terms old item x)) p
    ∙ still end payload (terminal_by_terms old item payload) s.masks

pub quiet_says : (old : End) (item : Item) (payload : Option Payload) → options_after old.terms.options (got item) ≡ old.terms.options
    → reply_items old.terms.options (got item) ≡ [] → payload_at old.terms.options item ≡ payload
    → wish_after old.terminal.settings.flags old.terms.wish (wish_in payload) ≡ old.terms.wish → says_by_terms old item ≡ list_replies old.table payload
quiet_says old item payload h b p w =
    let f = old.terminal.settings.flags in
    let t = old.terms in
    let c = old.table in
    ap (λ (o : Options). (reply_items t.options (got item) ++ items_by f c t o (wish_in (payload_at t.options item)) false)
    ++ list_replies c (payload_at t.options item)) h
    ∙ ap (λ (xs : List Item). (xs ++ items_by f c t t.options (wish_in (payload_at t.options item)) false) ++ list_replies c (payload_at t.options item)) b
    ∙ ap (λ (x : Option Payload). items_by f c t t.options (wish_in x) false ++ list_replies c x) p
    ∙ ap (λ (xs : List Item). xs ++ list_replies c payload) (says_nothing f c t (wish_in payload) w)

-- the settings as they were
pub unset : (old : End) (t : Terminal) → t.settings ≡ old.terminal.settings → t.width ≡ old.terminal.width → t.height ≡ old.terminal.height → IsSound old
    → set_by old t None ≡ t
unset old t settings width height s =
    ap (λ (c : Characters). record t {
      settings = record { flags = old.terminal.settings.flags; chars = c };
      width = old.terminal.width;
      height = old.terminal.height;
    }) s.chars
    ∙ ap (λ (x : Settings). record t { settings = x; width = old.terminal.width; height = old.terminal.height }) (sym settings)
    ∙ ap (λ (w : ℕ). record t { width = w; height = old.terminal.height }) (sym width)
    ∙ ap (λ (w : ℕ). record t { height = w }) (sym height)

-- a byte, a new line or a command
pub typed_got : (old : End) (item : Item) → options_after old.terms.options (got item) ≡ old.terms.options → payload_at old.terms.options item ≡ None
    → IsSound old → end_by_terms old item ≡ record old { terminal = typed_by old item; breaks = breaks_after old.breaks item }
typed_got old item h p s =
    quiet_got old item None h p refl s
    ∙ ap (λ (t : Terminal). record old { terminal = t; breaks = breaks_after old.breaks item }) (unset old (typed_by old item) refl refl refl s)

-- the item types nothing
abbrev pub TypesNothing : End → Item → Type 0
TypesNothing old item = typed_by old item ≡ old.terminal

pub neg_types_nothing : (old : End) (verb : Verb) (option : ℕ) → TypesNothing old (Neg verb option)
neg_types_nothing old verb option = typed_nothing old.terminal

pub sub_types_nothing : (old : End) (option : ℕ) (params : List ℕ) → TypesNothing old (Sub option params)
sub_types_nothing old option params = typed_nothing old.terminal

-- a payload that asks for no editing
pub unwished : (old : End) (item : Item) (payload : Option Payload) → options_after old.terms.options (got item) ≡ old.terms.options
    → payload_at old.terms.options item ≡ payload → wish_after old.terminal.settings.flags old.terms.wish (wish_in payload) ≡ old.terms.wish
    → TypesNothing old item → IsSound old → end_by_terms old item
    ≡ record old {
      modes = record { asked = old.modes.asked; current = mask_after false old.modes.current payload };
      table = chars_after old.table payload;
      terminal = set_by old old.terminal payload;
      breaks = breaks_after old.breaks item;
    }
unwished old item payload h p w n s =
    quiet_got old item payload h p w s
    ∙ ap (λ (t : Terminal). record old {
      modes = record { asked = old.modes.asked; current = mask_after false old.modes.current payload };
      table = chars_after old.table payload;
      terminal = set_by old t payload;
      breaks = breaks_after old.breaks item;
    }) n

-- the terminal's own characters
pub own_chars : (old : End) (w z : ℕ) → IsSound old → record (old.terminal)
    { settings = record { flags = old.terminal.settings.flags; chars = old.table }; width = w; height = z } ≡ record (old.terminal) { width = w; height = z }
own_chars old w z s = ap (λ (c : Characters). record (old.terminal)
    { settings = record { flags = old.terminal.settings.flags; chars = c }; width = w; height = z }) s.chars

-- an acknowledgement
abbrev by_ack : End → ℕ → Bool → Option Bool → End
by_ack old mask b None = record old { modes = if b then record (old.modes) { current = mode_of mask } else old.modes }
by_ack old mask b (Some edit) = end_after_wish old (mask_wished old edit)

pub mode_acked : (old : End) (mask : ℕ) → is_acknowledged mask ≡ true
    → record old { modes = record { asked = old.modes.asked; current = mask_after false old.modes.current (Some (Mode mask)) } } ≡ end_after_mode old mask
mode_acked old mask is =
    ap (λ (b : Bool). record old { modes = record { asked = old.modes.asked; current = if b then mode_of mask else old.modes.current } }) is
    ∙ sym (ap (λ (b : Bool). by_ack old mask b (if b then None else Some (edits mask))) is)

abbrev pub masks_at : Options → Bool → ℕ → ℕ → Option Payload → Modes
masks_at before on wish current payload = record { asked = asked_mask_while on wish; current = mask_after (differ (linemode before) on) current payload }

-- the code settles what the terms settle
pub settled_all : (old : End) (o : Options) (ed : Option Editing) (set : Bool) (payload : Option Payload) (terminal : Terminal)
    → chars_after old.table payload ≡ old.table → terminal ≡ old.terminal
    → mask_after (changes old.terms.options o) old.modes.current payload ≡ mask_after (changes old.terms.options o) old.modes.current None → IsSound old
    → with_all old (terms_by old.terminal.settings.flags old.terms o ed set) payload terminal
    ≡ with_negotiated old (negotiation_after (linemode old.terms.options) set old.terminal.settings.flags
    (record { options = o; modes = old.modes; wish = wish_after old.terminal.settings.flags old.terms.wish ed; opening = old.terms.opening }))
settled_all old o ed set payload terminal c is m s =
    let f = old.terminal.settings.flags in
    let t = old.terms in
    let wish = wish_after f t.wish ed in
    let all = terms_by f t o ed set in
    let n : Negotiation = record { options = o; modes = old.modes; wish = wish; opening = t.opening } in
    ap (λ (b : Bool). record old {
      terms = all;
      modes = masks_at t.options b wish old.modes.current payload;
      table = chars_after old.table payload;
      terminal = terminal;
    }) (echo_keeps_linemode (asks_echo t.options o (mask_told t o wish) set) (wants_echo t.opening o (asked_mask_of o wish) f) o)
    ∙ ap (λ (x : ℕ). record old {
      terms = all;
      modes = record { asked = asked_mask_of o wish; current = x };
      table = chars_after old.table payload;
      terminal = terminal;
    }) m
    ∙ ap (λ (x : Modes). record old { terms = all; modes = x; table = chars_after old.table payload; terminal = terminal })
    (sym (masks_settle f t old.modes o wish set s.masks))
    ∙ ap (λ (x : Options). record old {
      terms = record t { options = x; wish = wish };
      modes = (negotiation_after (linemode t.options) set f n).modes;
      table = chars_after old.table payload;
      terminal = terminal;
    }) (sym (terms_settle f t old.modes o ed set s.masks))
    ∙ ap (λ (x : Characters). record old {
      terms = record t { options = (negotiation_after (linemode t.options) set f n).options; wish = wish };
      modes = (negotiation_after (linemode t.options) set f n).modes;
      table = x;
      terminal = terminal;
    }) c
    ∙ ap (λ (x : Terminal). record old {
      terms = record t { options = (negotiation_after (linemode t.options) set f n).options; wish = wish };
      modes = (negotiation_after (linemode t.options) set f n).modes;
      terminal = x;
    }) is

-- an option message
pub words_got : (old : End) (verb : Verb) (option : ℕ) → IsSound old → end_by_terms old (Neg verb option) ≡ end_after_word old verb option
words_got old verb option s =
    let kept = ap (λ (t : Terminal). set_by old t None) (neg_types_nothing old verb option) ∙ unset old old.terminal refl refl refl s in
    settled_all old (options_after_word old.terms.options verb option) None false None (set_by old (typed_by old (Neg verb option)) None) refl kept refl s

pub words_said : (old : End) (verb : Verb) (option : ℕ) → IsSound old → says_by_terms old (Neg verb option) ≡ says_words old verb option
words_said old verb option s =
    let f = old.terminal.settings.flags in
    let t = old.terms in
    let said = reply_items t.options (got (Neg verb option)) in
    append-nil (said ++ items_by f old.table t (options_after_word t.options verb option) None false)
    ∙ ap (λ (xs : List Item). said ++ xs) (sym (says_settle f old.table t old.modes (options_after_word t.options verb option) None false s.masks))
