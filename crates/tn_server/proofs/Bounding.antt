-- The most bytes that a server end sends.
use Rattle.std.proofs.Common.{◌≡◌, ◌≢◌, ℕ, ◌+◌, ◌*◌, ◌≤◌, ◌==◌, nat_le, Bool, true, false, not, ◌&&◌, ◌||◌, Option, Some, None, Result, Ok, Err, List, [], ◌∷◌}
use Rattle.std.proofs.{Common.{◌++◌, length, map, take, drop, refl, sym, ◌∙◌, ap, arith, if◌then◌else◌, length-take, take-append-drop}, lemmas.Nat.and_le_r}
use Rattle.std.proofs.lemmas.List.{map-append, length-map}
use Rattle.tn_codes.specs.{Masks.trimmed_octets, declared.{codes.{Command.Command, Func.Func, Verb.Verb}, masks.Mask.Mask, payloads.Payload.Payload}}
use Rattle.tn_codes.specs.declared.{payloads.Payload.TheVariants.Slc, triples.Triple.Triple}
use Rattle.tn_codes.specs.declared.codes.Command.TheVariants as command
use Rattle.tn_codes.proofs.lemmas.Masks.{length-trimmed}
use Rattle.tn_discipline.specs.{Characters.{Characters, AreAllowed, slot, with_slot, char_fault, is_settable}, HalfLine.{HalfLine, effect_of}, Keys.role_of_key}
use Rattle.tn_discipline.specs.declared.{characters.CharFault.TheVariants.{NotSettable, Reserved}, echo.Symbol.Symbol, half_line.Effect.Effect, keys.Role.Role}
use Rattle.tn_discipline.specs.{Echo.{echo_at, one_shown, is_erased, wiping_symbols, no_echo}, declared.termios.{Flags.Flags, Settings.Settings}}
use Rattle.tn_discipline.specs.declared.echo.Symbol.TheVariants as symbol
use Rattle.tn_discipline.specs.declared.keys.Role.TheVariants as role
use Rattle.tn_linemode.specs.{Exchange.{server_next, server_answer, server_after, server_answers, server_is_asked, is_same_value, Answers}, Prefixes.IsRead}
use Rattle.tn_linemode.specs.{Modes.{mode_of, edits}, Words.{word_items, payload_items, mode_items, list_items}}
use Rattle.tn_nvt.specs.{Spelling.{cr, doubled_byte, doubled_bytes, spelling, Fits}, declared.items.Item.{Item, TheVariants.{Byte, Newline, Cmd, Neg, Sub}}}
use Rattle.tn_nvt.proofs.lemmas.Sizes.{doubled_within, doubled_some, doubled_alone, length-doubled-cons, total, total-append, IsWeight, weighs_at_most}
use Rattle.tn_option.specs.{Options.{Options, options_after_word, reply_to, answer_to, state_of, is_yes}, declared.q_method.AskFault.AskFault}
use Rattle.tn_option.specs.declared.q_method.Side.TheVariants.{Us, Them}
use Rattle.tn_pty.specs.{Terminal.{queue_with, output_symbol, output_symbols, fitting_count}, Typing.{symbols_in, echo_symbols, command_shows}}
use Rattle.tn_linemode.proofs.lemmas.Sizes.{size, size-append, size-one, size-word, size-mode, size-list, size-plain_triple, size-table, octets_size}
use Rattle.tn_linemode.proofs.lemmas.Sizes.{answers-size, says_under, size-came, size-least, size-sub, size-params, doubled_most}
use Rattle.tn_server.specs.{Bounds.{max_said, HasAllowedCharacters, max_of_calls, bytes_due}, Lines.line, Screen.{shows, queue, sends_ga, none_waits, due}}
use Rattle.tn_server.specs.Events.{History, Event, begun, next, got, took, wrote, pulled, wished, char_set, echo_set, mask_set, items}
use Rattle.tn_server.specs.Terms.{Terms, terms, options, flags, chars, mode, settings, linemode, echoes, payload_at, options_after, wish_at, wish_after}
use Rattle.tn_server.specs.Terms.{mask_told, mode_sent, asks_echo, asked_mask_of, wants_echo, terms_by, chars_after, opening_options}
use Rattle.tn_server.specs.Replies.{asked_word_items, table_items, new_table_items, echo_items, items_by, items_at, list_replies, triple_items, forward_payload}
use Rattle.tn_server.specs.{Replies.{data_of, replies, items_said}, declared.{wishes.Editing.Editing, openings.Opening.TheVariants.{Keys, Lines}}}
use Rattle.tn_server.proofs.lemmas.Terms.{differ_self, told_again, table_again, says_nothing, echo_keeps_linemode}

-- ITS REPLIES, part by part
size-asked : (r : Result (Option (Verb × ℕ)) AskFault) → size (asked_word_items r) ≤ 3
size-asked (Ok said) = size-word said
size-asked (Err fault) = omega arith

size-echo : (asks wanted : Bool) (o : Options) → size (echo_items asks wanted o) ≤ 3
size-echo true wanted o = size-asked (answer_to o Us 1 wanted)
size-echo false wanted o = omega arith

size-table_items : (told : Bool) (c : Characters) → AreAllowed c → size (table_items told c) ≤ 30
size-table_items true c allowed = size-table c allowed
size-table_items false c allowed = omega arith

size-told : (test : Bool) (wish : ℕ) → size (mode_items (if test then None else Some (mode_of wish))) ≤ 7
size-told true wish = omega arith
size-told false wish = omega (arith, size-mode (mode_of wish) (λ e. omega (arith, e, and_le_r wish 3)))

size-sent : (on : Bool) (before wish : ℕ) → size (mode_items (mode_sent on before wish)) ≤ 7
size-sent true before wish = size-told (mode_of wish == before) wish
size-sent false before wish = omega arith

-- the items that follow from new options, a request or a flag
size-by : (f : Flags) (c : Characters) (t : Terms) (o : Options) (editing : Option Editing) (set : Bool)
    → size (items_by f c t o editing set) ≤ size (new_table_items (linemode t.options) (linemode o) c) + 10
size-by f c t o editing set =
    let wish = wish_after f t.wish editing in
    let echo = echo_items (asks_echo t.options o (mask_told t o wish) set) (wants_echo t.opening o (asked_mask_of o wish) f) o in
    omega (
      arith,
      size-append (new_table_items (linemode t.options) (linemode o) c) (mode_items (mask_told t o wish) ++ echo),
      size-append (mode_items (mask_told t o wish)) echo,
      size-sent (linemode o) (asked_mask_of t.options t.wish) wish,
      size-echo (asks_echo t.options o (mask_told t o wish) set) (wants_echo t.opening o (asked_mask_of o wish) f) o,
    )

-- if LINEMODE stays as it was
size-by_same : (f : Flags) (c : Characters) (t : Terms) (editing : Option Editing) (set : Bool) → size (items_by f c t t.options editing set) ≤ 10
size-by_same f c t editing set =
    omega (arith, size-by f c t t.options editing set, ap size (table_again (linemode t.options) c))

says_none : (f : Flags) (c : Characters) (t : Terms) (o : Options) → linemode o ≡ linemode t.options → items_by f c t o None false ≡ []
says_none f c t o e =
    rw (e, told_again (linemode t.options) t.wish, differ_self (linemode t.options), table_again (linemode t.options) c) refl

-- if it goes off
says_off : (f : Flags) (c : Characters) (t : Terms) (o : Options) → linemode o ≡ false → size (items_by f c t o None false) ≤ 3
says_off f c t o e =
    let echo = echo_items (asks_echo t.options o None false) (wants_echo t.opening o (asked_mask_of o t.wish) f) o in
    let is : items_by f c t o None false ≡ echo = rw e refl in
    omega (arith, ap size is, size-echo (asks_echo t.options o None false) (wants_echo t.opening o (asked_mask_of o t.wish) f) o)

-- if the flag ECHO is set
size-set : (f : Flags) (c : Characters) (t : Terms) → size (items_by f c t t.options None true) ≤ 3
size-set f c t =
    let echo = echo_items (asks_echo t.options t.options None true) (wants_echo t.opening t.options (asked_mask_of t.options t.wish) f) t.options in
    let is : items_by f c t t.options None true ≡ echo = rw (told_again (linemode t.options) t.wish, table_again (linemode t.options) c) refl in
    omega (arith, ap size is, size-echo (asks_echo t.options t.options None true) (wants_echo t.opening t.options (asked_mask_of t.options t.wish) f) t.options)

-- the message for ECHO changes nothing at LINEMODE
linemode_kept : (f : Flags) (t : Terms) (o : Options) (editing : Option Editing) (set : Bool) → linemode (terms_by f t o editing set).options ≡ linemode o
linemode_kept f t o editing set =
    let wish = wish_after f t.wish editing in
    echo_keeps_linemode (asks_echo t.options o (mask_told t o wish) set) (wants_echo t.opening o (asked_mask_of o wish) f) o

-- AN OPTION MESSAGE pays for the reply to it, with LINEMODE that was off before.
abbrev credit : Bool → ℕ
credit true = 0
credit false = 16

size-word_by : (f : Flags) (c : Characters) (t : Terms) (o : Options) (was on : Bool) → linemode t.options ≡ was → linemode o ≡ on → AreAllowed c
    → size (items_by f c t o None false) + credit on ≤ 24 + credit was
size-word_by f c t o true true was is allowed = omega (arith, ap size (says_none f c t o (is ∙ sym was)))
size-word_by f c t o false false was is allowed = omega (arith, ap size (says_none f c t o (is ∙ sym was)))
size-word_by f c t o true false was is allowed = omega (arith, says_off f c t o is)
size-word_by f c t o false true was is allowed =
    omega (arith, size-by f c t o None false, size-table_items (linemode o && not (linemode t.options)) c allowed)

word_pays : (f : Flags) (c : Characters) (t : Terms) (verb : Verb) (option : ℕ) → AreAllowed c
    → size (items_at f c t (got (Neg verb option))) + credit (linemode (options_after_word t.options verb option)) ≤ 27 + credit (linemode t.options)
word_pays f c t verb option allowed =
    let o = options_after_word t.options verb option in
    omega (
      arith,
      size-append (word_items (reply_to t.options verb option)) (items_by f c t o None false),
      size-word (reply_to t.options verb option),
      size-word_by f c t o (linemode t.options) (linemode o) refl refl allowed,
    )

size-word_at : (f : Flags) (c : Characters) (t : Terms) (verb : Verb) (option : ℕ) → AreAllowed c → size (items_at f c t (got (Neg verb option))) ≤ 43
size-word_at f c t verb option allowed =
    let o = options_after_word t.options verb option in
    omega (
      arith,
      size-append (word_items (reply_to t.options verb option)) (items_by f c t o None false),
      size-word (reply_to t.options verb option),
      size-by f c t o None false,
      size-table_items (linemode o && not (linemode t.options)) c allowed,
    )

-- A SUBNEGOTIATION
module _ (stays : (c : Characters) (ts : List Triple) → AreAllowed c → AreAllowed (server_after c ts))
    (names : (c : Characters) (t a : Triple) → AreAllowed c → server_answer c t ≡ Some a → Answers t a) where
  next_stays : (c : Characters) (t : Triple) → AreAllowed c → AreAllowed (server_next c t)
  unfolding server_after
  next_stays c t allowed = stays c (t ∷ []) allowed

  -- a list of local characters: its answers, and the table if it asks for it
  size-list_replies : (c : Characters) (ts : List Triple) → AreAllowed c → size (list_replies c (Some (Slc ts))) ≤ octets_size ts + 36
  unfolding server_answers
  size-list_replies c ts allowed =
      omega (
        arith,
        size-append (list_items (server_answers c ts)) (table_items (server_is_asked ts) (server_after c ts)),
        size-list (server_answers c ts),
        answers-size server_next server_answer AreAllowed next_stays names c ts allowed,
        size-table_items (server_is_asked ts) (server_after c ts) (stays c ts allowed),
      )

  -- the end answers any other subnegotiation with at most a MODE and a message for ECHO
  said_besides : (f : Flags) (c : Characters) (t : Terms) (option : ℕ) (params : List ℕ) → list_replies c (payload_at t.options (Sub option params)) ≡ []
      → size (items_at f c t (got (Sub option params)) ++ list_replies c (payload_at t.options (Sub option params))) ≤ length (spelling (Sub option params))
      + 30
  said_besides f c t option params none =
      let said : List Item = items_at f c t (got (Sub option params)) in
      omega (
        arith,
        size-append said (list_replies c (payload_at t.options (Sub option params))),
        ap size none,
        size-by_same f c t (wish_at t.options (got (Sub option params))) false,
        size-least option params,
      )

  -- the reply to it is no longer than it is and the whole table
  said_to : (f : Flags) (c : Characters) (t : Terms) (option : ℕ) (params : List ℕ) (p : Option Payload) → AreAllowed c
      → payload_at t.options (Sub option params) ≡ p
      → size (items_at f c t (got (Sub option params)) ++ list_replies c (payload_at t.options (Sub option params))) ≤ length (spelling (Sub option params))
      + 30
  said_to f c t option params (Some (Slc ts)) allowed e =
      let said : List Item = items_at f c t (got (Sub option params)) in
      let nothing : said ≡ [] = rw e (says_nothing f c t None refl) in
      omega (
        arith,
        size-append said (list_replies c (payload_at t.options (Sub option params))),
        ap size nothing,
        ap (λ (x : Option Payload). size (list_replies c x)) e,
        size-list_replies c ts allowed,
        size-came option params ts (says_under (is_yes (state_of t.options Them option)) option params (Slc ts) e),
      )
  said_to f c t option params _ allowed e = said_besides f c t option params (ap (list_replies c) e)

  -- AN ITEM
  silent_at : (said : List Item) → said ≡ [] → size (said ++ []) ≤ 0
  silent_at said none = omega (arith, size-append said [], ap size none)

  pub said_at_most : (h : History) (item : Item) → AreAllowed (chars h) → size (replies h (got item)) ≤ max_said item
  said_at_most h (Byte b) allowed = silent_at (items_at (flags h) (chars h) (terms h) (got (Byte b))) (says_nothing (flags h) (chars h) (terms h) None refl)
  said_at_most h Newline allowed = silent_at (items_at (flags h) (chars h) (terms h) (got Newline)) (says_nothing (flags h) (chars h) (terms h) None refl)
  said_at_most h (Cmd command) allowed = silent_at (items_at (flags h) (chars h) (terms h) (got (Cmd command)))
      (says_nothing (flags h) (chars h) (terms h) None refl)
  said_at_most h (Neg verb option) allowed =
      let said : List Item = items_at (flags h) (chars h) (terms h) (got (Neg verb option)) in
      omega (arith, size-append said [], size-word_at (flags h) (chars h) (terms h) verb option allowed)
  said_at_most h (Sub option params) allowed =
      said_to (flags h) (chars h) (terms h) option params (payload_at (options h) (Sub option params)) allowed refl

-- WHAT IS SHOWN, and waits to be pulled
size-symbol : (s : Symbol) → length (spelling (data_of s)) ≤ 2
size-symbol (symbol.Byte b) = within (b == cr)
  where
    within : (test : Bool) → length (if test then cr ∷ 0 ∷ [] else doubled_byte b) ≤ 2
    within true = omega arith
    within false = doubled_within b
size-symbol symbol.Newline = omega arith

size-symbols : (xs : List Symbol) → size (map data_of xs) ≤ 2 * length xs
size-symbols [] = omega arith
size-symbols (x ∷ xs) = omega (arith, size-symbol x, size-append (data_of x ∷ []) (map data_of xs), size-one (data_of x), size-symbols xs)

size-shown : (shown : Bool) (s : Symbol) → size (map data_of (symbols_in (one_shown shown s))) ≤ 3
size-shown true s = omega (arith, size-symbol s, size-one (data_of s))
size-shown false s = omega arith

size-wiped : (test : Bool) → size (map data_of (symbols_in (if test then wiping_symbols else no_echo))) ≤ 3
size-wiped true = omega arith
size-wiped false = omega arith

-- the symbols that echo a key of this role
size-echoed : (f : Flags) (r : Role) (e : Effect) → size (map data_of (symbols_in (echo_at f r e))) ≤ 3
size-echoed f (role.Ordinary byte) e = size-shown f.echo _
size-echoed f role.Nl e = size-shown (f.echo || f.echonl) symbol.Newline
size-echoed f (role.Eol byte) e = size-shown f.echo (symbol.Byte byte)
size-echoed f (role.Eol2 byte) e = size-shown f.echo (symbol.Byte byte)
size-echoed f role.Erase e = size-wiped (f.echo && (f.echoe && is_erased e))
size-echoed f role.Kill e = size-shown (f.echo && f.echok) symbol.Newline
size-echoed f _ e = omega arith

size-echo_symbols : (on : Bool) (s : Settings) (key : ℕ) (l : HalfLine) → size (map data_of (echo_symbols on s key l)) ≤ 3
size-echo_symbols true s key l = size-echoed s.flags (role_of_key s key) (effect_of l (role_of_key s key))
size-echo_symbols false s key l = omega arith

size-command : (command : Command) → size (map data_of (command_shows command)) ≤ 7
size-command command.Ayt = omega arith
size-command _ = omega arith

-- WHAT AN ITEM WEIGHS: what it is answered by at most, and what it shows
abbrev weight : Item → ℕ
weight (Byte b) = 3
weight Newline = 3
weight (Cmd command) = 7
weight (Neg verb option) = 27
weight (Sub option params) = length (spelling (Sub option params)) + 30

size-queue_if : (test : Bool) (q xs : List Symbol) → size (map data_of (if test then q ++ xs else q)) ≤ size (map data_of q) + size (map data_of xs)
size-queue_if true q xs = omega (arith, ap size (map-append data_of q xs), size-append (map data_of q) (map data_of xs))
size-queue_if false q xs = omega arith

size-queue_with : (q xs : List Symbol) → size (map data_of (queue_with q xs)) ≤ size (map data_of q) + size (map data_of xs)
size-queue_with q xs = size-queue_if (nat_le (length q + length xs) 4096) q xs

credit_after : (h : History) (item : Item) → credit (linemode (options (next h (got item)))) ≡ credit (linemode (options_after (options h) (got item)))
credit_after h item =
    ap credit (linemode_kept (flags h) (terms h) (options_after (options h) (got item)) (wish_at (options h) (got item)) false)

module _ (stays : (c : Characters) (ts : List Triple) → AreAllowed c → AreAllowed (server_after c ts))
    (names : (c : Characters) (t a : Triple) → AreAllowed c → server_answer c t ≡ Some a → Answers t a) where
  item_pays : (h : History) (item : Item) → AreAllowed (chars h)
      → size (replies h (got item)) + size (map data_of (shows (settings h) (edits (mode h)) (echoes (options h)) (line h) item))
      + credit (linemode (options (next h (got item))))
      ≤ weight item + credit (linemode (options h))
  item_pays h (Byte b) allowed =
      omega (
        arith,
        said_at_most stays names h (Byte b) allowed,
        size-echo_symbols (not (edits (mode h)) && echoes (options h)) (settings h) b (line h),
        credit_after h (Byte b),
      )
  item_pays h Newline allowed =
      omega (
        arith,
        said_at_most stays names h Newline allowed,
        size-echo_symbols (not (edits (mode h)) && echoes (options h)) (settings h) 10 (line h),
        credit_after h Newline,
      )
  item_pays h (Cmd command) allowed =
      omega (arith, said_at_most stays names h (Cmd command) allowed, size-command command, credit_after h (Cmd command))
  item_pays h (Neg verb option) allowed =
      let said : List Item = items_at (flags h) (chars h) (terms h) (got (Neg verb option)) in
      omega (arith, size-append said [], word_pays (flags h) (chars h) (terms h) verb option allowed, credit_after h (Neg verb option))
  item_pays h (Sub option params) allowed =
      omega (arith, said_at_most stays names h (Sub option params) allowed, credit_after h (Sub option params))

-- CALLS
size-ga : (test : Bool) → size (if test then Cmd command.Ga ∷ [] else []) ≤ 2
size-ga true = omega arith
size-ga false = omega arith

size-mask : (mask : Option Mask) → size (payload_items (forward_payload mask)) ≤ 71
size-mask (Some mask) =
    let octets : List ℕ = trimmed_octets (take 32 mask.0) in
    let whole : size (payload_items (forward_payload (Some mask))) ≡ length (doubled_bytes (253 ∷ 2 ∷ octets)) + 5 =
    size-sub 34 (253 ∷ 2 ∷ octets) (λ e. omega (arith, e)) in
    omega (
      arith,
      whole,
      length-doubled-cons 253 (2 ∷ octets),
      length-doubled-cons 2 octets,
      doubled_alone 253 (λ e. omega (arith, e)),
      doubled_alone 2 (λ e. omega (arith, e)),
      doubled_most octets,
      length-trimmed (take 32 mask.0),
      length-take 32 mask.0,
    )
size-mask None =
    let most : size (payload_items (forward_payload None)) ≤ 9 = size-params 34 (254 ∷ 2 ∷ []) (λ e. omega (arith, e)) in
    omega (arith, most)

-- a character that was accepted is no IAC
refuses : (settable : Bool) → (if settable then Some Reserved else Some NotSettable) ≡ None → ⊥
refuses true e = cc
refuses false e = cc

plain_value : (c : Characters) (f : Func) (v : Option ℕ) → char_fault c f v ≡ None → v ≢ Some 255
plain_value c f v none e = refuses (is_settable f) (ap (char_fault c f) (sym e) ∙ none)

size-character : (told : Bool) (f : Func) (v : Option ℕ) → v ≢ Some 255 → size (triple_items told f v) ≤ 9
size-character true f v plain = size-plain_triple f v plain
size-character false f v plain = omega arith

size-output : (f : Flags) (n : ℕ) (bytes : List ℕ) → size (map data_of (output_symbols f (take n bytes))) ≤ 2 * length bytes
size-output f n bytes =
    omega (arith, size-symbols (output_symbols f (take n bytes)), length-map (take n bytes) (output_symbol f), length-take n bytes)

size-pulled : (n : ℕ) (q : List Symbol) → size (map data_of (take n q)) + size (map data_of (drop n q)) ≡ size (map data_of q)
size-pulled n q =
    sym (size-append (map data_of (take n q)) (map data_of (drop n q)))
    ∙ ap size (sym (map-append data_of (take n q) (drop n q)))
    ∙ ap (λ (xs : List Symbol). size (map data_of xs)) (take-append-drop n q)

-- a call adds no more to what is sent or waits than it may
character_pays : (h : History) (func : Func) (value : Option ℕ) → char_fault (chars h) func value ≡ None → size (replies h (char_set func value)) ≤ 9
character_pays h func value accepted =
    size-character (linemode (options h) && not (is_same_value (slot (chars h) func) value)) func value (plain_value (chars h) func value accepted)

-- THE WHOLE HISTORY
abbrev Bounded : History → Type 0
Bounded h = bytes_due h + credit (linemode (options h)) ≤ total weight (items h) + max_of_calls h + 31

credit_most : (on : Bool) → credit on ≤ 16
credit_most true = omega arith
credit_most false = omega arith

-- the bytes that an event adds
grows : (h : History) (e : Event) (gain : ℕ) → size (replies h e) + size (map data_of (queue (next h e)))
    + credit (linemode (options (next h e))) ≤ size (map data_of (queue h)) + gain + credit (linemode (options h))
    → bytes_due (next h e) + credit (linemode (options (next h e))) ≤ bytes_due h + gain + credit (linemode (options h))
grows h e gain few = omega (arith, few, size-append (items_said h) (replies h e))

module _ (stays : (c : Characters) (ts : List Triple) → AreAllowed c → AreAllowed (server_after c ts))
    (accepts : (c : Characters) (f : Func) (v : Option ℕ) → AreAllowed c → char_fault c f v ≡ None → AreAllowed (with_slot c f v)) where
  payload_stays : (c : Characters) (p : Option Payload) → AreAllowed c → AreAllowed (chars_after c p)
  payload_stays c (Some (Slc ts)) allowed = stays c ts allowed
  payload_stays c _ allowed = allowed

  pub chars_allowed : (h : History) → HasAllowedCharacters h → AreAllowed (chars h)
  chars_allowed (begun opening canon) has = has
  chars_allowed (next h (got item)) has = payload_stays (chars h) (payload_at (options h) item) (chars_allowed h has)
  chars_allowed (next h (char_set func value)) has = accepts (chars h) func value (chars_allowed h has.0) has.1
  chars_allowed (next h _) has = chars_allowed h has

module _ (stays : (c : Characters) (ts : List Triple) → AreAllowed c → AreAllowed (server_after c ts))
    (names : (c : Characters) (t a : Triple) → AreAllowed c → server_answer c t ≡ Some a → Answers t a)
    (accepts : (c : Characters) (f : Func) (v : Option ℕ) → AreAllowed c → char_fault c f v ≡ None → AreAllowed (with_slot c f v)) where
  bounded : (h : History) → HasAllowedCharacters h → Bounded h
  bounded (begun Keys canon) has = omega (arith, credit_most (linemode (opening_options Keys)))
  bounded (begun Lines canon) has = omega (arith, credit_most (linemode (opening_options Lines)))
  bounded (next h (got item)) has =
      let xs : List Symbol = shows (settings h) (edits (mode h)) (echoes (options h)) (line h) item in
      omega (
        arith,
        bounded h has,
        total-append weight (items h) (item ∷ []),
        grows h (got item) (weight item) (omega (arith, item_pays stays names h item (chars_allowed stays accepts h has), size-queue_with (queue h) xs)),
      )
  bounded (next h took) has =
      omega (arith, bounded h has, grows h took 2 (omega (arith, size-ga (sends_ga (none_waits h) (options h) (due h)))))
  bounded (next h (wrote bytes)) has =
      let n : ℕ = fitting_count (queue h) bytes in
      let xs : List Symbol = output_symbols (settings h).flags (take n bytes) in
      omega (
        arith,
        bounded h has,
        grows h (wrote bytes) (2 * length bytes) (omega (
          arith,
          size-output (settings h).flags n bytes,
          ap size (map-append data_of (queue h) xs),
          size-append (map data_of (queue h)) (map data_of xs),
        )),
      )
  bounded (next h (pulled n)) has =
      omega (arith, bounded h has, grows h (pulled n) 0 (omega (arith, size-pulled n (queue h))))
  bounded (next h (wished editing)) has =
      omega (
        arith,
        bounded h has,
        grows h (wished editing) 10
            (omega (
              arith,
              size-by_same (flags h) (chars h) (terms h) (Some editing) false,
              ap credit (linemode_kept (flags h) (terms h) (options h) (Some editing) false),
            )),
      )
  bounded (next h (char_set func value)) has =
      omega (arith, bounded h has.0, grows h (char_set func value) 9 (omega (arith, character_pays h func value has.1)))
  bounded (next h (echo_set on)) has =
      let f : Flags = flags (next h (echo_set on)) in
      omega (
        arith,
        bounded h has,
        grows h (echo_set on) 3 (omega (arith, size-set f (chars h) (terms h), ap credit (linemode_kept f (terms h) (options h) None true))),
      )
  bounded (next h (mask_set mask)) has =
      omega (arith, bounded h has, grows h (mask_set mask) 71 (omega (arith, size-mask mask)))

-- WEIGHTS OF A STREAM
length-some : (b : ℕ) → 1 ≤ length (spelling (Byte b))
length-some b = some (b == cr)
  where
    some : (test : Bool) → 1 ≤ length (if test then cr ∷ 0 ∷ [] else doubled_byte b)
    some true = omega arith
    some false = doubled_some b

weight-most : (item : Item) → Fits item → weight item ≤ 9 * length (spelling item)
weight-most (Byte b) fits = omega (arith, length-some b)
weight-most (Sub option params) fits = omega (arith, size-least option params)
weight-most _ fits = omega arith

is_weight : IsWeight weight 9
is_weight = record { spelled = weight-most; alone = omega arith }

-- the bytes that are sent, or wait to be, for the bytes of a stream
pub sent_at_most : ((c : Characters) (ts : List Triple) → AreAllowed c → AreAllowed (server_after c ts))
    → ((c : Characters) (t a : Triple) → AreAllowed c → server_answer c t ≡ Some a → Answers t a)
    → ((c : Characters) (f : Func) (v : Option ℕ) → AreAllowed c → char_fault c f v ≡ None → AreAllowed (with_slot c f v))
    → (h : History) (bytes : List ℕ) → HasAllowedCharacters h → IsRead bytes (items h) → bytes_due h ≤ 9 * length bytes + max_of_calls h + 31
sent_at_most stays names accepts h bytes has (rest, reading) =
    omega (arith, bounded stays names accepts h has, weighs_at_most weight 9 is_weight bytes rest (items h) reading)
