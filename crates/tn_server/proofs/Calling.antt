-- The ends to which the owner's calls lead.
use Rattle.std.proofs.Common.{◌≡◌, ℕ, ◌+◌, nat_lt, Bool, true, false, not, ◌&&◌, ◌||◌, Option, Some, None, is_some, List, [], ◌∷◌, ◌++◌, length, take, drop}
use Rattle.std.proofs.{Common.{refl, sym, ap, ◌∙◌, subst, arith, append-nil, append_assoc, length-append, if◌then◌else◌}, lemmas.Bool.{lt-ltb, le-ltb}}
use Rattle.tn_codes.specs.declared.{codes.{Func.Func, Command.TheVariants.Ga}, masks.Mask.Mask}
use Rattle.tn_discipline.specs.{Characters.{Characters, slot, with_slot}, declared.{reads.Entry.Entry, echo.Symbol.Symbol, termios.Flags.Flags}}
use Rattle.tn_discipline.specs.declared.termios.Settings.{Settings}
use Rattle.tn_linemode.specs.{Modes.Modes, Words.{differ, mode_items}}
use Rattle.tn_nvt.specs.{Spelling.spells, declared.items.Item.{Item, TheVariants.Cmd}}
use Rattle.tn_option.specs.{Options.{state_of, is_yes}, declared.q_method.Side.TheVariants.Us}
use Rattle.tn_pty.specs.Terminal.{Terminal, fitting_count, output_symbols}
use Rattle.tn_server.specs.{Events.{History, next, took, wrote, pulled, wished, char_set, echo_set, mask_set}, Lines.{entries, taken_count}, Screen.queue}
use Rattle.tn_server.specs.Terms.{Terms, terms, terms_by, options, flags, chars, settings, asked_mask, asked_mask_of, asked_mask_while, changes, mask_after}
use Rattle.tn_server.specs.{Terms.{linemode, mask_for, asks_echo, options_with_echo, wants_echo, mask_told, wish_after, sends_mode}, Calls.{End, LeadsTo}}
use Rattle.tn_server.specs.{Replies.{replies, items_by, echo_items, new_table_items, character_items}, declared.wishes.Editing.Editing}
use Rattle.tn_server.specs.Steps.{end_after, says, end_after_take, says_take, end_after_write, end_after_pull, end_after_echo, flags_with_echo, sends_mode_now}
use Rattle.tn_server.proofs.{lemmas.Terms.{differ_self, told_again, table_again, echo_keeps_linemode}, Turning.{sound, with_all}}
use Rattle.tn_server.proofs.Wishing.{wish_done, wish_said, wish_told}

-- OUTPUT is written
pub stands_wrote : (h : History) (old : End) (bytes : List ℕ) → LeadsTo h old → LeadsTo (next h (wrote bytes)) (end_after_write old bytes)
stands_wrote h old bytes s = record {
  settings = s.settings;
  table = s.table;
  terms = s.terms;
  modes = s.modes;
  limit = s.limit;
  line = s.line;
  ahead = s.ahead;
  read = s.read;
  count = s.count;
  waits = s.waits;
  queue = written old.terminal.settings (settings h) old.terminal.queue (queue h) s.settings s.queue;
  size = s.size;
  due = s.due;
  breaks = s.breaks;
}
  where
    written : (x y : Settings) (p q : List Symbol) → x ≡ y → p ≡ q
        → p ++ output_symbols x.flags (take (fitting_count p bytes) bytes) ≡ q ++ output_symbols y.flags (take (fitting_count q bytes) bytes)
    written x y p q a b = rw (a, b) refl

-- this number of the bytes of an OUTPUT is written
pub written_some : (old : End) (new : Terminal) (n : ℕ) (bytes : List ℕ) → n ≡ fitting_count old.terminal.queue bytes
    → new ≡ record (old.terminal) { queue = old.terminal.queue ++ output_symbols old.terminal.settings.flags (take n bytes) }
    → record old { terminal = new } ≡ end_after_write old bytes
written_some old new n bytes count is =
    ap (λ (t : Terminal). record old { terminal = t }) is
    ∙ ap (λ (m : ℕ). record old {
      terminal = record (old.terminal)
          { queue = old.terminal.queue ++ output_symbols old.terminal.settings.flags (take m bytes) };
    }) count

-- THE FIRST ENTRY is taken, or none waits
some_left : (read rest : List Entry) (r : Entry) (n : ℕ) (es : List Entry) → length read ≡ n → es ≡ read ++ r ∷ rest → nat_lt n (length es) ≡ true
some_left read rest r n es e f = lt-ltb n (length es) (let g = ap length f in omega (arith, e, g, length-append read (r ∷ rest)))

none_left : (read : List Entry) (n : ℕ) (es : List Entry) → length read ≡ n → es ≡ read → nat_lt n (length es) ≡ false
none_left read n es e f = le-ltb n (length es) (let g = ap length f in omega (arith, e, g))

taken_if : (b : Bool) (n : ℕ) → b ≡ true → (if b then n + 1 else n) ≡ n + 1
taken_if true n e = refl
taken_if false n e = cc

not_taken_if : (b : Bool) (n : ℕ) → b ≡ false → (if b then n + 1 else n) ≡ n
not_taken_if true n e = cc
not_taken_if false n e = refl

pub stands_took : (h : History) (old : End) (es : List Entry) → old.terminal.entries ≡ es → LeadsTo h old → LeadsTo (next h took) (end_after_take old es)
stands_took h old [] is s =
    let o = ap (λ (t : Terms). t.options) s.terms in
    let left = none_left s.read (taken_count h) (entries h) s.count (s.waits ∙ ap (λ (xs : List Entry). s.read ++ xs) is ∙ append-nil s.read) in
    record {
      settings = s.settings;
      table = s.table;
      terms = s.terms;
      modes = s.modes;
      limit = s.limit;
      line = s.line;
      ahead = s.ahead;
      read = s.read;
      count = s.count ∙ sym (not_taken_if _ (taken_count h) left);
      waits = s.waits ∙ ap (λ (xs : List Entry). s.read ++ xs) is;
      queue = s.queue;
      size = s.size;
      due = rw (left, ← o, ← s.due) refl;
      breaks = s.breaks;
    }
stands_took h old (r ∷ rest) is s =
    let waits = s.waits ∙ ap (λ (xs : List Entry). s.read ++ xs) is in
    let left = some_left s.read rest r (taken_count h) (entries h) s.count waits in
    record {
      settings = s.settings;
      table = s.table;
      terms = s.terms;
      modes = s.modes;
      limit = s.limit;
      line = s.line;
      ahead = s.ahead;
      read = s.read ++ r ∷ [];
      count = length-append s.read (r ∷ []) ∙ ap (λ (n : ℕ). n + 1) s.count ∙ sym (taken_if _ (taken_count h) left);
      waits = waits ∙ sym (append_assoc s.read (r ∷ []) rest);
      queue = s.queue;
      size = s.size;
      due = rw left s.due;
      breaks = s.breaks;
    }

pub replies_took : (h : History) (old : End) (es : List Entry) → old.terminal.entries ≡ es → LeadsTo h old → replies h took ≡ says_take old es
replies_took h old [] is s =
    let o = ap (λ (t : Terms). t.options) s.terms in
    let left = none_left s.read (taken_count h) (entries h) s.count (s.waits ∙ ap (λ (xs : List Entry). s.read ++ xs) is ∙ append-nil s.read) in
    rw (left, ← o, ← s.due) refl
replies_took h old (r ∷ rest) is s =
    rw (some_left s.read rest r (taken_count h) (entries h) s.count (s.waits ∙ ap (λ (xs : List Entry). s.read ++ xs) is)) refl

-- the code's result
pub taken_some : (old : End) (new : Terminal) (r : Entry) → old.terminal.entries ≡ r ∷ new.entries → new ≡ record (old.terminal) { entries = new.entries }
    → record old { terminal = new } ≡ end_after old took
taken_some old new r first is = ap (λ (t : Terminal). record old { terminal = t }) is ∙ ap (end_after_take old) (sym first)

pub taken_says : (old : End) (r : Entry) (rest : List Entry) (before : List ℕ) → old.terminal.entries ≡ r ∷ rest → before ≡ before ++ spells (says old took)
taken_says old r rest before first =
    sym (append-nil before) ∙ ap (λ (es : List Entry). before ++ spells (says_take old es)) (sym first)

-- GA is due
abbrev pub is_due : End → Bool
is_due old = not (is_yes (state_of old.terms.options Us 3)) && old.pulled

pub idle_after : (old : End) (ga : Bool) → old.terminal.entries ≡ [] → ga ≡ is_due old
    → record old { pulled = if ga then false else old.pulled } ≡ end_after old took
idle_after old ga none is =
    ap (λ (b : Bool). record old { pulled = if b then false else old.pulled }) is
    ∙ ap (λ (es : List Entry). record old { terminal = record (old.terminal) { entries = es }; pulled = if is_due old then false else old.pulled }) none
    ∙ ap (end_after_take old) (sym none)

pub idle_says : (old : End) (ga : Bool) (before after : List ℕ) → old.terminal.entries ≡ [] → ga ≡ is_due old
    → after ≡ before ++ spells (if ga then Cmd Ga ∷ [] else []) → after ≡ before ++ spells (says old took)
idle_says old ga before after none is said =
    said ∙ ap (λ (b : Bool). before ++ spells (if b then Cmd Ga ∷ [] else [])) is
    ∙ ap (λ (es : List Entry). before ++ spells (says_take old es)) (sym none)

-- SYMBOLS are pulled
pub stands_pulled : (h : History) (old : End) (n : ℕ) → LeadsTo h old → LeadsTo (next h (pulled n)) (end_after_pull old n)
stands_pulled h old n s = record {
  settings = s.settings;
  table = s.table;
  terms = s.terms;
  modes = s.modes;
  limit = s.limit;
  line = s.line;
  ahead = s.ahead;
  read = s.read;
  count = s.count;
  waits = s.waits;
  queue = ap (λ (q : List Symbol). drop n q) s.queue;
  size = s.size;
  due = rw (s.due, s.queue) refl;
  breaks = s.breaks;
}

or_false : (b : Bool) → (b || false) ≡ b
or_false true = refl
or_false false = refl

pub pulled_none : (old : End) → old ≡ end_after_pull old 0
pulled_none old = ap (λ (b : Bool). record old { pulled = b }) (sym (or_false old.pulled))

-- A REQUEST changes only the terms
stands_wished : (h : History) (old : End) (editing : Editing) → LeadsTo h old
    → LeadsTo (next h (wished editing)) (with_all old (terms_by old.terminal.settings.flags old.terms old.terms.options (Some editing) false) None old.terminal)
stands_wished h old editing s =
    let f = old.terminal.settings.flags in
    let o = old.terms.options in
    let all = terms_by f old.terms o (Some editing) false in
    let is_flags = ap (λ (x : Settings). x.flags) s.settings in
    let is_terms : all ≡ terms (next h (wished editing)) =
    ap (λ (x : Flags). terms_by x old.terms o (Some editing) false) is_flags ∙ ap (λ (t : Terms). terms_by (flags h) t t.options (Some editing) false) s.terms
    in
    let stays : changes o all.options ≡ false =
    ap (λ (b : Bool). differ (linemode o) b) (echo_keeps_linemode (asks_echo o o (mask_told old.terms o all.wish) false)
    (wants_echo old.terms.opening o (asked_mask_of o all.wish) f) o) ∙ differ_self (linemode o) in
    record {
      settings = s.settings;
      table = s.table;
      terms = is_terms;
      modes =
          ap (λ (b : Bool). record { asked = asked_mask_of all.options all.wish; current = mask_after b old.modes.current None }) stays
          ∙ ap (λ (t : Terms). record { asked = asked_mask_of t.options t.wish; current = old.modes.current }) is_terms
          ∙ ap (λ (m : Modes). record { asked = asked_mask (next h (wished editing)); current = m.current }) s.modes;
      limit = s.limit;
      line = s.line;
      ahead = s.ahead;
      read = s.read;
      count = s.count;
      waits = s.waits;
      queue = s.queue;
      size = s.size;
      due = s.due;
      breaks = s.breaks;
    }

pub stands_wish : (h : History) (old : End) (editing : Editing) → LeadsTo h old → LeadsTo (next h (wished editing)) (end_after old (wished editing))
stands_wish h old editing s =
    subst (LeadsTo (next h (wished editing)))
    (wish_done old editing (mask_for old.terminal.settings.flags editing) None old.terminal refl refl refl refl (sound h old s))
    (stands_wished h old editing s)

pub replies_wish : (h : History) (old : End) (editing : Editing) → LeadsTo h old → replies h (wished editing) ≡ says old (wished editing)
replies_wish h old editing s =
    let is_flags = ap (λ (x : Settings). x.flags) s.settings in
    sym (ap (λ (x : Flags). items_by x old.table old.terms old.terms.options (Some editing) false) is_flags
    ∙ ap (λ (c : Characters). items_by (flags h) c old.terms old.terms.options (Some editing) false) s.table
    ∙ ap (λ (t : Terms). items_by (flags h) (chars h) t t.options (Some editing) false) s.terms)
    ∙ wish_said old editing (mask_for old.terminal.settings.flags editing) refl (sound h old s)

pub tells_mode : (h : History) (old : End) (editing : Editing) → LeadsTo h old → sends_mode h editing ≡ sends_mode_now old editing
tells_mode h old editing s =
    let f = old.terminal.settings.flags in
    ap (λ (x : Flags). is_some (mask_told (terms h) (options h) (wish_after x (terms h).wish (Some editing)))) (sym (ap (λ (x : Settings). x.flags) s.settings))
    ∙ ap (λ (t : Terms). is_some (mask_told t t.options (wish_after f t.wish (Some editing)))) (sym s.terms)
    ∙ wish_told old editing (mask_for f editing) refl (sound h old s)

-- A CHARACTER is set
pub stands_char : (h : History) (old : End) (func : Func) (value : Option ℕ) → LeadsTo h old
    → LeadsTo (next h (char_set func value)) (end_after old (char_set func value))
stands_char h old func value s = record {
  settings =
      ap (λ (x : Settings). record { flags = x.flags; chars = with_slot old.table func value }) s.settings
      ∙ ap (λ (c : Characters). record { flags = flags h; chars = with_slot c func value }) s.table;
  table = ap (λ (c : Characters). with_slot c func value) s.table;
  terms = s.terms;
  modes = s.modes;
  limit = s.limit;
  line = s.line;
  ahead = s.ahead;
  read = s.read;
  count = s.count;
  waits = s.waits;
  queue = s.queue;
  size = s.size;
  due = s.due;
  breaks = s.breaks;
}

pub replies_char : (h : History) (old : End) (func : Func) (value : Option ℕ) → LeadsTo h old → replies h (char_set func value) ≡ says old (char_set func value)
replies_char h old func value s =
    ap (λ (t : Terms). character_items (linemode t.options) (slot (chars h) func) func value) (sym s.terms)
    ∙ ap (λ (c : Characters). character_items (linemode old.terms.options) (slot c func) func value) (sym s.table)

-- THE FLAG ECHO is set
or_true : (a b : Bool) → (a || (b || true)) ≡ true
or_true true b = refl
or_true false true = refl
or_true false false = refl

abbrev with_echo : Flags → Bool → Flags
with_echo f on = record f { echo = on }

-- the terms once the flag ECHO is set
echo_terms : (f : Flags) (t : Terms) → terms_by f t t.options None true
    ≡ record t { options = options_with_echo true (wants_echo t.opening t.options (asked_mask_of t.options t.wish) f) t.options }
echo_terms f t =
    ap (λ (b : Bool). record t { options = options_with_echo b (wants_echo t.opening t.options (asked_mask_of t.options t.wish) f) t.options })
    (or_true (changes t.options t.options) (is_some (mask_told t t.options t.wish)))

echo_says : (f : Flags) (c : Characters) (t : Terms) → items_by f c t t.options None true
    ≡ echo_items true (wants_echo t.opening t.options (asked_mask_of t.options t.wish) f) t.options
echo_says f c t =
    ap (λ (b : Bool). new_table_items (linemode t.options) (linemode t.options) c
    ++ (mode_items (mask_told t t.options t.wish) ++ echo_items b (wants_echo t.opening t.options (asked_mask_of t.options t.wish) f) t.options))
    (or_true (changes t.options t.options) (is_some (mask_told t t.options t.wish)))
    ∙ ap (λ (xs : List Item). xs ++ (mode_items (mask_told t t.options t.wish) ++ echo_items true (wants_echo t.opening t.options (asked_mask_of t.options t.wish) f) t.options))
    (table_again (linemode t.options) c)
    ∙ ap (λ (told : Option ℕ). mode_items told ++ echo_items true (wants_echo t.opening t.options (asked_mask_of t.options t.wish) f) t.options)
    (told_again (linemode t.options) t.wish)

pub stands_echo : (h : History) (old : End) (on : Bool) → LeadsTo h old → LeadsTo (next h (echo_set on)) (end_after_echo old on)
stands_echo h old on s =
    let is_flags = ap (λ (x : Settings). x.flags) s.settings in
    let sounds = sound h old s in
    let f = flags_with_echo old on in
    let was = old.terms in
    let o = options_with_echo true (wants_echo was.opening was.options old.modes.asked f) was.options in
    let now : Terms = record was { options = o } in
    let settles : now ≡ terms_by f old.terms old.terms.options None true =
    ap (λ (a : ℕ). record was { options = options_with_echo true (wants_echo was.opening was.options a f) was.options }) sounds.masks
    ∙ sym (echo_terms f old.terms) in
    let is_terms : now ≡ terms (next h (echo_set on)) =
    settles ∙ ap (λ (x : Flags). terms_by (with_echo x on) old.terms old.terms.options None true) is_flags
    ∙ ap (λ (t : Terms). terms_by (with_echo (flags h) on) t t.options None true) s.terms in
    let stays : linemode o ≡ linemode old.terms.options = echo_keeps_linemode true (wants_echo was.opening was.options old.modes.asked f) was.options in
    record {
      settings = ap (λ (x : Settings). record { flags = with_echo x.flags on; chars = x.chars }) s.settings;
      table = s.table;
      terms = is_terms;
      modes =
          ap (λ (a : ℕ). record { asked = a; current = old.modes.current }) (sounds.masks ∙ sym (ap (λ (b : Bool). asked_mask_while b old.terms.wish) stays))
          ∙ ap (λ (t : Terms). record { asked = asked_mask_of t.options t.wish; current = old.modes.current }) is_terms
          ∙ ap (λ (m : Modes). record { asked = asked_mask (next h (echo_set on)); current = m.current }) s.modes;
      limit = s.limit;
      line = s.line;
      ahead = s.ahead;
      read = s.read;
      count = s.count;
      waits = s.waits;
      queue = s.queue;
      size = s.size;
      due = s.due;
      breaks = s.breaks;
    }

pub replies_echo : (h : History) (old : End) (on : Bool) → LeadsTo h old → replies h (echo_set on) ≡ says old (echo_set on)
replies_echo h old on s =
    let is_flags = ap (λ (x : Settings). x.flags) s.settings in
    sym (ap (λ (x : Flags). items_by (with_echo x on) old.table old.terms old.terms.options None true) is_flags
    ∙ ap (λ (c : Characters). items_by (with_echo (flags h) on) c old.terms old.terms.options None true) s.table
    ∙ ap (λ (t : Terms). items_by (with_echo (flags h) on) (chars h) t t.options None true) s.terms)
    ∙ echo_says (flags_with_echo old on) old.table old.terms
    ∙ ap (λ (a : ℕ). echo_items true (wants_echo old.terms.opening old.terms.options a (flags_with_echo old on)) old.terms.options) (sym (sound h old s).masks)

-- A FORWARD MASK is sent
pub stands_mask : (h : History) (old : End) (mask : Option Mask) → LeadsTo h old → LeadsTo (next h (mask_set mask)) old
stands_mask h old mask s = record {
  settings = s.settings;
  table = s.table;
  terms = s.terms;
  modes = s.modes;
  limit = s.limit;
  line = s.line;
  ahead = s.ahead;
  read = s.read;
  count = s.count;
  waits = s.waits;
  queue = s.queue;
  size = s.size;
  due = s.due;
  breaks = s.breaks;
}
