-- The end to which an item leads from a history, by the terms that the end has agreed on.
use Rattle.std.proofs.Common.{◌≡◌, ℕ, Option, List, ◌++◌, refl, sym, ap, ◌∙◌, append_assoc, arith, subst}
use Rattle.tn_codes.specs.declared.payloads.Payload.{Payload}
use Rattle.tn_discipline.specs.{Characters.Characters, Keys.roles_from, Entries.entries_of, HalfLine.{HalfLine, line_after}, declared.keys.Role.Role}
use Rattle.tn_discipline.specs.declared.{reads.Entry.Entry, echo.Symbol.Symbol, termios.{Flags.Flags, Settings.Settings}}
use Rattle.tn_discipline.specs.Advancing as discipline
use Rattle.tn_discipline.proofs.lemmas.Lines.{advances}
use Rattle.tn_linemode.specs.Modes.{Modes, edits}
use Rattle.tn_nvt.specs.declared.items.Item.{Item}
use Rattle.tn_option.specs.Options.{Options}
use Rattle.tn_pty.specs.{Terminal.{Terminal, queue_with}, Typing.{gain_of, terminal_after}}
use Rattle.tn_server.specs.{Events.{Event, History, next, got, breaks_after}, Terms.{Terms, terms_after, asked_mask_of, changes, mask_after, chars_after, payload_at, echoes}}
use Rattle.tn_server.specs.{Lines.{roles, role_at, role_of_item}, Screen.{shows, size_after}, Replies.{replies, items_at, list_replies}, Calls.{End, LeadsTo}}
use Rattle.tn_server.proofs.lemmas.Ends.{line_is}

-- the effect of an item on the terminal
abbrev pub terminal_by_terms : End → Item → Option Payload → Terminal
terminal_by_terms old item payload =
    let t = old.terminal in
    let edit = edits old.modes.current in
    let symbols = shows t.settings edit (echoes old.terms.options) t.line item in
    record (terminal_after t (role_at t.settings edit item) symbols) {
      settings = record { flags = t.settings.flags; chars = chars_after old.table payload };
      width = (size_after (t.width, t.height) payload).0;
      height = (size_after (t.width, t.height) payload).1;
    }

-- the terms after an event
abbrev pub terms_of_event : End → Event → Terms
terms_of_event old e = terms_after old.terminal.settings.flags old.terms e

-- the end after an item, and its reply
abbrev pub end_by_terms : End → Item → End
end_by_terms old item =
    let t = terms_of_event old (got item) in
    let payload = payload_at old.terms.options item in
    record old {
      terms = t;
      modes = record {
        asked = asked_mask_of t.options t.wish;
        current = mask_after (changes old.terms.options t.options) old.modes.current payload;
      };
      table = chars_after old.table payload;
      terminal = terminal_by_terms old item payload;
      breaks = breaks_after old.breaks item;
    }

abbrev pub says_by_terms : End → Item → List Item
says_by_terms old item =
    items_at old.terminal.settings.flags old.table old.terms (got item)
    ++ list_replies old.table (payload_at old.terms.options item)

same_settings : (f g : Flags) (c d : Characters) (o p : Options) (item : Item) → f ≡ g → c ≡ d → o ≡ p
    → ◌≡◌ {A = Settings} (record { flags = f; chars = chars_after c (payload_at o item) }) (record { flags = g; chars = chars_after d (payload_at p item) })
same_settings f g c d o p item a b e = rw (a, b, e) refl

same_chars : (c d : Characters) (o p : Options) (item : Item) → c ≡ d → o ≡ p → chars_after c (payload_at o item) ≡ chars_after d (payload_at p item)
same_chars c d o p item b e = rw (b, e) refl

same_terms : (f g : Flags) (t u : Terms) (item : Item) → f ≡ g → t ≡ u → terms_after f t (got item) ≡ terms_after g u (got item)
same_terms f g t u item a b = ap (λ (x : Flags). terms_after x t (got item)) a ∙ ap (λ (x : Terms). terms_after g x (got item)) b

abbrev modes_of : Options → Terms → ℕ → Option Payload → Modes
modes_of o t current payload = record { asked = asked_mask_of t.options t.wish; current = mask_after (changes o t.options) current payload }

same_modes : (o p : Options) (t u : Terms) (m n : ℕ) (item : Item) → o ≡ p → t ≡ u → m ≡ n
    → modes_of o t m (payload_at o item) ≡ modes_of p u n (payload_at p item)
same_modes o p t u m n item a b e = rw (a, b, e) refl

same_role : (s t : Settings) (m n : ℕ) (item : Item) → s ≡ t → m ≡ n → role_at s (edits m) item ≡ role_at t (edits n) item
same_role s t m n item a b = rw (a, b) refl

same_queue : (s t : Settings) (m n : ℕ) (o p : Options) (l k : HalfLine) (q r : List Symbol) (item : Item) → s ≡ t → m ≡ n → o ≡ p → l ≡ k → q ≡ r
    → queue_with q (shows s (edits m) (echoes o) l item) ≡ queue_with r (shows t (edits n) (echoes p) k item)
same_queue s t m n o p l k q r item a b c d e = rw (a, b, c, d, e) refl

same_size : (z w : ℕ × ℕ) (o p : Options) (item : Item) → z ≡ w → o ≡ p → size_after z (payload_at o item) ≡ size_after w (payload_at p item)
same_size z w o p item a b = rw (a, b) refl

same_says : (f g : Flags) (c d : Characters) (t u : Terms) (item : Item) → f ≡ g → c ≡ d → t ≡ u
    → items_at f c t (got item) ++ list_replies c (payload_at t.options item) ≡ items_at g d u (got item) ++ list_replies d (payload_at u.options item)
same_says f g c d t u item a b e =
    ap (λ (x : Flags). items_at x c t (got item) ++ list_replies c (payload_at t.options item)) a
    ∙ ap (λ (x : Characters). items_at g x t (got item) ++ list_replies x (payload_at t.options item)) b
    ∙ ap (λ (x : Terms). items_at g d x (got item) ++ list_replies d (payload_at x.options item)) e

-- the role of the next item
pub role_is : (h : History) (old : End) (item : Item) → LeadsTo h old → role_at old.terminal.settings (edits old.modes.current) item ≡ role_of_item h item
role_is h old item s = same_role _ _ _ _ item s.settings (ap (λ (m : Modes). m.current) s.modes)

pub stands_got : (h : History) (old : End) (item : Item) → LeadsTo h old → LeadsTo (next h (got item)) (end_by_terms old item)
stands_got h old item s =
    let is_flags = ap (λ (x : Settings). x.flags) s.settings in
    let is_options = ap (λ (t : Terms). t.options) s.terms in
    let is_mode = ap (λ (m : Modes). m.current) s.modes in
    let is_terms = same_terms _ _ _ _ item is_flags s.terms in
    let is_role = same_role _ _ _ _ item s.settings is_mode in
    let old_role = role_at old.terminal.settings (edits old.modes.current) item in
    let moves = advances old.terminal.line old_role in
    record {
      settings = same_settings _ _ _ _ _ _ item is_flags s.table is_options;
      table = same_chars _ _ _ _ item s.table is_options;
      terms = is_terms;
      modes = same_modes _ _ _ _ _ _ item is_options is_terms is_mode;
      limit = moves.limit ∙ s.limit;
      line =
          let P : Role → Type 0 = λ r. discipline.LeadsTo (roles h ++ roles_from r) (line_after old.terminal.line old_role) in
          subst P is_role (moves.half (roles h) s.line);
      ahead = omega (arith, moves.ahead, s.ahead);
      read = s.read;
      count = s.count;
      waits =
          ap (λ (n : ℕ). entries_of n (roles h ++ roles_from (role_of_item h item))) (sym s.limit)
          ∙ ap (λ (r : Role). entries_of old.terminal.line.limit (roles h ++ roles_from r)) (sym is_role)
          ∙ moves.entries (roles h) s.line s.ahead
          ∙ ap (λ (n : ℕ). entries_of n (roles h) ++ gain_of old.terminal.line old_role) s.limit
          ∙ ap (λ (xs : List Entry). xs ++ gain_of old.terminal.line old_role) s.waits
          ∙ append_assoc s.read old.terminal.entries (gain_of old.terminal.line old_role);
      queue = same_queue _ _ _ _ _ _ _ _ _ _ item s.settings is_mode is_options (line_is h old s) s.queue;
      size = same_size _ _ _ _ item s.size is_options;
      due = s.due;
      breaks = ap (λ (n : ℕ). breaks_after n item) s.breaks;
    }

pub replies_got : (h : History) (old : End) (item : Item) → LeadsTo h old → replies h (got item) ≡ says_by_terms old item
replies_got h old item s = sym (same_says _ _ _ _ _ _ item (ap (λ (x : Settings). x.flags) s.settings) s.table s.terms)
