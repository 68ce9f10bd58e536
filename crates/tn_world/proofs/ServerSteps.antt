-- The steps of a server end after a mark: at items that are calm, and at its owner's calls.
use Rattle.std.proofs.Common.{◌≡◌, ◌≤◌, inl, inr, ℕ, ◌==◌, nat_le, Bool, true, false, not, ◌&&◌, ◌||◌, Option, Some, None, List, [], ◌∷◌, ◌++◌, length, take}
use Rattle.std.proofs.{Common.{map, refl, sym, ap, ◌∙◌, if◌then◌else◌, subst, arith, append-nil}, lemmas.{Bool.Decides.nat_tests, Nat.and_assoc}}
use Rattle.std.proofs.lemmas.List.Elements.{All-nil, All-cons, All-head, All-tail, All-append}
use Rattle.std.specs.Prelude.{All}
use Rattle.tn_codes.specs.{Masks.{filled_octets, trimmed_octets}, PayloadOf.payload_of, declared.codes.{Command.TheVariants.Ga, Verb.{Verb, TheVariants.Will}}}
use Rattle.tn_codes.specs.declared.payloads.Payload.{Payload}
use Rattle.tn_codes.specs.declared.payloads.Payload.TheVariants as payload
use Rattle.tn_codes.proofs.lemmas.Telling.{says as says_of}
use Rattle.tn_discipline.specs.{Canon.Canon, Characters.{Characters, standard_characters}, HalfLine.{HalfLine, line_after}, Steps.{half_next, gain_next}}
use Rattle.tn_discipline.specs.declared.{echo.Symbol.Symbol, keys.Role.Role, reads.Entry.Entry, termios.{Flags.Flags, Settings.Settings}}
use Rattle.tn_discipline.specs.declared.echo.Symbol.TheVariants as symbol
use Rattle.tn_discipline.proofs.lemmas.Lines.{advances}
use Rattle.tn_linemode.specs.{Exchange.announcement, Modes.{Modes, mode_of, is_acknowledged, edits}, Words.{differ, word_items, mode_items, list_items}}
use Rattle.tn_nvt.specs.{Spelling.Fits, declared.items.Item.{Item, TheVariants.{Byte, Newline, Cmd, Neg, Sub}}}
use Rattle.tn_option.specs.{Options.{Options, options_after_word, reply_to, state_of, agrees_to, is_yes}, declared.q_method.QState.TheVariants.Yes}
use Rattle.tn_option.specs.declared.q_method.Side.TheVariants.{Them}
use Rattle.tn_pty.specs.Typing.{terminal_after, gain_of, command_role, command_shows}
use Rattle.tn_server.specs.{Calls.End, Events.{Event, got, took, wrote, pulled, wished, char_set, echo_set, mask_set}, Lines.role_at, Screen.byte_shows}
use Rattle.tn_server.specs.{Replies.{table_items, new_table_items, data_of}, Steps.says_items, Terms.{linemode, echoes, payload_at, mask_for, wants_echo}}
use Rattle.tn_server.specs.Steps.{modes_before, modes_told, modes_asked, masks_by, is_due, negotiation_after, negotiation_items, with_negotiated}
use Rattle.tn_server.specs.Steps.{negotiation_heard, negotiation_wishing, end_after_word, end_after_wish, says_wished, end_after_mode_by, says_mode_by}
use Rattle.tn_server.specs.Steps.{end_after_payload, says_sub, end_after_item, says_item, owes_ga, flags_with_echo, end_after, says, end_after_items}
use Rattle.tn_server.specs.declared.{terms.Negotiation.Negotiation, wishes.Editing.Editing}
use Rattle.tn_server.proofs.lemmas.Terms.{differ_self, table_again, echo_keeps_linemode}
use Rattle.tn_world.specs.relation.Calm.{SaysCalmly, IsCalmToServer, AsksCalmly, IsCalmToClient}
use Rattle.tn_world.specs.relation.Pictures.{Server, server_core, NeverEnds, IsAllowed, ServerStays}
use Rattle.tn_world.proofs.{Machine.{edit_by, read, read_all}, Wishes.{allowed_wish, mask_asked, wish_asked}, Reading.{next_held, next_gain}}
use Rattle.tn_world.proofs.Engines.{one, reply_made, echo_made, server_turned, server_asks, echo_keeps_state, word_keeps_state, echo_agrees, word_agrees}

-- an option message about another option leaves LINEMODE as it is
pub words_keep_linemode : (o : Options) (verb : Verb) (option : ℕ) → (option == 34) ≡ false → linemode (options_after_word o verb option) ≡ linemode o
words_keep_linemode o verb option e = ap is_yes (word_keeps_state o Them verb option e)

-- WHAT STAYS AS IT WAS AT THE MARK
-- the rest of an end has no part in it
pub stays_aside : (canon : Canon) (old new : End) → new.terms ≡ old.terms → new.table ≡ old.table → new.terminal.settings ≡ old.terminal.settings
    → new.terminal.line.limit ≡ old.terminal.line.limit → new.terminal.line.ahead ≡ old.terminal.line.ahead → ServerStays canon old → ServerStays canon new
stays_aside canon old new terms table settings limit ahead k = record {
  agreed = rw terms k.agreed;
  linemode = rw terms k.linemode;
  wish = rw (terms, settings) k.wish;
  chars = table ∙ k.chars;
  own = rw settings k.own;
  flags = rw settings k.flags;
  limit = limit ∙ k.limit;
  ahead = ahead ∙ k.ahead;
}

-- a key of this role
stays_typed : (canon : Canon) (old : End) (r : Role) (symbols : List Symbol) → ServerStays canon old
    → ServerStays canon (record old { terminal = terminal_after old.terminal r symbols })
stays_typed canon old r symbols k =
    let moves = advances old.terminal.line r in
    stays_aside canon old (record old { terminal = terminal_after old.terminal r symbols }) refl refl refl moves.limit (omega (arith, moves.ahead, k.ahead)) k

-- new options, and perhaps a request
stays_negotiated : (canon : Canon) (old : End) (was set : Bool) (f : Flags) (n : Negotiation) → agrees_to n.options Them 34 ≡ true
    → NeverEnds (state_of n.options Them 34) → IsAllowed old.terminal.settings.flags n.wish → ServerStays canon old
    → ServerStays canon (with_negotiated old (negotiation_after was set f n))
stays_negotiated canon old was set f n agrees never allowed k =
    let wanted = wants_echo n.opening n.options (masks_by was n).asked f in
    record {
      agreed = echo_agrees (is_due was set n) wanted n.options ∙ agrees;
      linemode = subst NeverEnds (sym (echo_keeps_state (is_due was set n) wanted n.options)) never;
      wish = allowed;
      chars = k.chars;
      own = k.own;
      flags = k.flags;
      limit = k.limit;
      ahead = k.ahead;
    }

-- THE CORE after new options and perhaps a request
asked_current : (on : Bool) (m : Modes) (wish : ℕ) → (modes_asked on m wish).current ≡ m.current
asked_current true m wish = refl
asked_current false m wish = refl

abbrev turned : End → Bool → Modes → Bool → Server
turned old was m on = record (server_core old) { linemode = on; edit = edits (modes_before (differ was on) m).current }

core_negotiated : (old : End) (was set : Bool) (f : Flags) (n : Negotiation)
    → server_core (with_negotiated old (negotiation_after was set f n)) ≡ turned old was n.modes (linemode n.options)
core_negotiated old was set f n =
    ap (λ (b : Bool). record (server_core old) { linemode = b; edit = edits (masks_by was n).current })
    (echo_keeps_linemode (is_due was set n) (wants_echo n.opening n.options (masks_by was n).asked f) n.options)
    ∙ ap (λ (m : ℕ). record (server_core old) { linemode = linemode n.options; edit = edits m })
    (asked_current (linemode n.options) (modes_before (differ was (linemode n.options)) n.modes) n.wish)

turned_same : (old : End) (was : Bool) → turned old was old.modes was ≡ record (server_core old) { linemode = was }
turned_same old was = ap (λ (b : Bool). record (server_core old) { linemode = was; edit = edits (modes_before b old.modes).current }) (differ_self was)

-- A CALM ITEM brings no request and no character
counted : (P : Option Payload → Type 0) (b : Bool) (p : Option Payload) → P p → P None → P (if b then p else None)
counted P true p a none = a
counted P false p a none = none

pub calm_at : (s : Settings) (o : Options) (item : Item) → IsCalmToServer s item → SaysCalmly (payload_at o item)
calm_at s o (Sub option params) c = counted SaysCalmly (is_yes (state_of o Them option) && nat_le (length params) 512) (payload_of option params) c tt
calm_at s o _ c = tt

-- the messages of the client after which LINEMODE is on
turned_after : (o : Options) (verb : Verb) (option : ℕ) → agrees_to o Them 34 ≡ true → NeverEnds (state_of o Them 34) → verb ≡ Will → option ≡ 34
    → state_of (options_after_word o verb option) Them 34 ≡ Yes
turned_after o verb option a n v c =
    ap (λ (x : Verb). state_of (options_after_word o x option) Them 34) v ∙ ap (λ (x : ℕ). state_of (options_after_word o Will x) Them 34) c
    ∙ server_turned o a n

-- the flag ECHO has no part in the role of an item
role_seen : (s : Settings) (echo edit : Bool) (item : Item) → role_at (record { flags = record (s.flags) { echo = echo }; chars = s.chars }) edit item
    ≡ role_at s edit item
role_seen s echo edit (Byte b) = refl
role_seen s echo edit Newline = refl
role_seen s echo edit _ = refl

role_is : (canon : Canon) (old : End) (item : Item) → ServerStays canon old
    → role_at old.terminal.settings (edits old.modes.current) item ≡ role_at canon.settings (edits old.modes.current) item
role_is canon old item k =
    let edit = edits old.modes.current in
    let x = old.terminal.settings in
    ap (λ (f : Flags). role_at (record { flags = f; chars = x.chars }) edit item) k.flags
    ∙ ap (λ (c : Characters). role_at (record { flags = record (canon.settings.flags) { echo = x.flags.echo }; chars = c }) edit item) k.own
    ∙ role_seen canon.settings x.flags.echo edit item

-- A CALM ITEM IS READ as the relation requires
core_ignored : (old : End) → server_core old ≡ record (server_core old) { waiting = old.terminal.entries ++ [] }
core_ignored old = ap (λ (es : List Entry). record (server_core old) { waiting = es }) (sym (append-nil old.terminal.entries))

core_key : (canon : Canon) (old : End) (item : Item) (symbols : List Symbol) → ServerStays canon old
    → server_core (record old { terminal = terminal_after old.terminal (role_at old.terminal.settings (edits old.modes.current) item) symbols })
    ≡ record (server_core old) {
      half = half_next canon.limit old.terminal.line.held (role_at canon.settings (edits old.modes.current) item);
      waiting =
          old.terminal.entries
          ++ gain_next canon.limit old.terminal.line.held (role_at canon.settings (edits old.modes.current) item);
    }
core_key canon old item symbols k =
    let l = old.terminal.line in
    let r = role_at canon.settings (edits old.modes.current) item in
    let here : l ≡ record { held = l.held; ahead = 0; limit = canon.limit } =
    ap (λ (n : ℕ). record l { ahead = n }) k.ahead ∙ ap (λ (n : ℕ). record { held = l.held; ahead = 0; limit = n }) k.limit in
    ap (λ (x : Role). server_core (record old { terminal = terminal_after old.terminal x symbols })) (role_is canon old item k)
    ∙ ap (λ (x : HalfLine). record (server_core old) { half = (line_after x r).held; waiting = old.terminal.entries ++ gain_of x r }) here
    ∙ ap (λ (bytes : List ℕ). record (server_core old)
    { half = bytes; waiting = old.terminal.entries ++ gain_of (record { held = l.held; ahead = 0; limit = canon.limit }) r }) (next_held l.held canon.limit r)
    ∙ ap (λ (es : List Entry). record (server_core old) { half = half_next canon.limit l.held r; waiting = old.terminal.entries ++ es })
    (next_gain l.held canon.limit r)

-- LINEMODE comes on with the one message that turns it on, and begins without a mask
begins_unmasked : (l : Bool) (m : Modes) → edits (modes_before (differ l true) m).current ≡ l && edits m.current
begins_unmasked true m = refl
begins_unmasked false m = refl

-- the server after a message, by whether it is about LINEMODE
abbrev after_word : End → Bool → Server
after_word old b =
    let l = linemode old.terms.options in
    let e = edits old.modes.current in
    record (server_core old) { linemode = b || l; edit = if b then l && e else e; waiting = old.terminal.entries ++ [] }

core_word : (canon : Canon) (old : End) (verb : Verb) (option : ℕ) → ServerStays canon old → IsCalmToServer canon.settings (Neg verb option)
    → server_core (end_after_word old verb option) ≡ read canon (server_core old) (Neg verb option)
core_word canon old verb option k (inl e) =
    let l = linemode old.terms.options in
    core_negotiated old l false old.terminal.settings.flags (negotiation_heard old verb option)
    ∙ ap (turned old l old.modes) (words_keep_linemode old.terms.options verb option e)
    ∙ turned_same old l
    ∙ core_ignored old
    ∙ ap (after_word old) (sym e)
core_word canon old verb option k (inr t) =
    let l = linemode old.terms.options in
    core_negotiated old l false old.terminal.settings.flags (negotiation_heard old verb option)
    ∙ ap (turned old l old.modes) (ap is_yes (turned_after old.terms.options verb option k.agreed k.linemode t.0 t.1))
    ∙ ap (λ (b : Bool). record (server_core old) { linemode = true; edit = b }) (begins_unmasked l old.modes)
    ∙ ap (λ (es : List Entry). record (server_core old) { linemode = true; edit = l && edits old.modes.current; waiting = es }) (sym (append-nil old.terminal.entries))
    ∙ ap (λ (n : ℕ). after_word old (n == 34)) (sym t.1)

pub edits-mode_of : (mask : ℕ) → edits (mode_of mask) ≡ edits mask
edits-mode_of mask = ap (λ (n : ℕ). not (n == 0)) (and_assoc 1 mask 3)

-- a mask that acknowledges counts if LINEMODE is on
abbrev after_mode : End → Bool → Server
after_mode old edit = record (server_core old) { edit = edit; waiting = old.terminal.entries ++ [] }

mode_seen : (old : End) (mask : ℕ) (on : Bool) → is_acknowledged mask ≡ true
    → server_core (end_after_payload old (if on then Some (payload.Mode mask) else None)) ≡ after_mode old (if on then edits mask else edits old.modes.current)
mode_seen old mask true acked =
    ap (λ (b : Bool). server_core (end_after_mode_by old mask (if b then None else Some (edits mask)))) acked
    ∙ ap (λ (b : Bool). record (server_core old) { edit = edits (if b then record (old.modes) { current = mode_of mask } else old.modes).current }) acked
    ∙ ap (λ (b : Bool). record (server_core old) { edit = b }) (edits-mode_of mask)
    ∙ ap (λ (es : List Entry). record (server_core old) { edit = edits mask; waiting = es }) (sym (append-nil old.terminal.entries))
mode_seen old mask false acked = core_ignored old

short_enough : (n : ℕ) → n ≤ 512 → nat_le n 512 ≡ true
short_enough n h = grind (arith, nat_tests)

and_is : (a b c : Bool) → a ≡ c → b ≡ true → (a && b) ≡ c
and_is true b c e f = f ∙ e
and_is false b c e f = e

core_sub : (old : End) (option : ℕ) (params : List ℕ) (p : Option Payload) → payload_of option params ≡ p → length params ≤ 512 → SaysCalmly p
    → server_core (end_after_payload old (if is_yes (state_of old.terms.options Them option) && nat_le (length params) 512 then p else None))
    ≡ after_mode old (edit_by (linemode old.terms.options) (edits old.modes.current) p)
core_sub old option params (Some (payload.Mode mask)) e fits c =
    let on = linemode old.terms.options in
    let is : option ≡ 34 = (says_of option params (payload.Mode mask) e).0 in
    let counts : (is_yes (state_of old.terms.options Them option) && nat_le (length params) 512) ≡ on =
    and_is (is_yes (state_of old.terms.options Them option)) (nat_le (length params) 512) on (ap (λ (n : ℕ). is_yes (state_of old.terms.options Them n)) is)
    (short_enough (length params) fits) in
    ap (λ (b : Bool). server_core (end_after_payload old (if b then Some (payload.Mode mask) else None))) counts ∙ mode_seen old mask on c
core_sub old option params (Some (payload.Slc triples)) e fits c = absurd c
core_sub old option params p e fits c =
    counted (λ (q : Option Payload). server_core (end_after_payload old q) ≡ after_mode old (edits old.modes.current))
    (is_yes (state_of old.terms.options Them option) && nat_le (length params) 512) p (core_ignored old) (core_ignored old)

abbrev shown_by : End → ℕ → List Symbol
shown_by old byte =
    let t = old.terminal in
    byte_shows t.settings (edits old.modes.current) (echoes old.terms.options) t.line byte

pub core_got : (canon : Canon) (old : End) (item : Item) → ServerStays canon old → Fits item → IsCalmToServer canon.settings item
    → server_core (end_after_item old item) ≡ read canon (server_core old) item
core_got canon old (Byte byte) k f c = core_key canon old (Byte byte) (shown_by old byte) k
core_got canon old Newline k f c = core_key canon old Newline (shown_by old 10) k
core_got canon old (Cmd command) k f c = core_key canon old (Cmd command) (command_shows command) k
core_got canon old (Neg verb option) k f c = core_word canon old verb option k c
core_got canon old (Sub option params) k f c = core_sub old option params (payload_of option params) refl f c

-- a calm subnegotiation leaves all as it was at the mark
stays_sub : (canon : Canon) (old : End) (p : Option Payload) → SaysCalmly p → ServerStays canon old → ServerStays canon (end_after_payload old p)
stays_sub canon old (Some (payload.Naws width height)) c k = stays_aside canon old (end_after_payload old (Some (payload.Naws width height))) refl refl refl refl refl k
stays_sub canon old (Some (payload.Mode mask)) c k =
    subst (λ (b : Bool). ServerStays canon (end_after_mode_by old mask (if b then None else Some (edits mask)))) (sym c)
    (stays_aside canon old (end_after_mode_by old mask None) refl refl refl refl refl k)
stays_sub canon old (Some (payload.Slc triples)) c k = absurd c
stays_sub canon old p c k = k

word_never : (canon : Canon) (old : End) (verb : Verb) (option : ℕ) → ServerStays canon old → IsCalmToServer canon.settings (Neg verb option)
    → NeverEnds (state_of (options_after_word old.terms.options verb option) Them 34)
word_never canon old verb option k (inl e) = subst NeverEnds (sym (word_keeps_state old.terms.options Them verb option e)) k.linemode
word_never canon old verb option k (inr t) = subst NeverEnds (sym (turned_after old.terms.options verb option k.agreed k.linemode t.0 t.1)) tt

pub stays_got : (canon : Canon) (old : End) (item : Item) → ServerStays canon old → IsCalmToServer canon.settings item → ServerStays canon (end_after_item old item)
stays_got canon old (Byte byte) k c = stays_typed canon old (role_at old.terminal.settings (edits old.modes.current) (Byte byte)) _ k
stays_got canon old Newline k c = stays_typed canon old (role_at old.terminal.settings (edits old.modes.current) Newline) _ k
stays_got canon old (Cmd command) k c =
    let typed : End = record old { terminal = terminal_after old.terminal (command_role command) (command_shows command) } in
    stays_aside canon typed (end_after_item old (Cmd command)) refl refl refl refl refl (stays_typed canon old (command_role command) _ k)
stays_got canon old (Neg verb option) k c =
    stays_negotiated canon old (linemode old.terms.options) false old.terminal.settings.flags (negotiation_heard old verb option)
    (word_agrees old.terms.options Them verb option ∙ k.agreed) (word_never canon old verb option k c) k.wish k
stays_got canon old (Sub option params) k c =
    stays_sub canon old (payload_at old.terms.options (Sub option params)) (calm_at canon.settings old.terms.options (Sub option params) c) k

-- WHAT A CALM ITEM IS ANSWERED WITH
-- LINEMODE that comes on, with the table that the client has
table_calm : (s : Settings) → s.chars ≡ standard_characters → All (IsCalmToClient s) (list_items (announcement standard_characters))
unfolding announcement
table_calm s is = one (IsCalmToClient s) _ (is, refl)

told_calm : (s : Settings) (c : Characters) (b : Bool) → c ≡ s.chars → s.chars ≡ standard_characters → All (IsCalmToClient s) (table_items b c)
told_calm s c true same is = subst (λ (x : Characters). All (IsCalmToClient s) (list_items (announcement x))) (sym (same ∙ is)) (table_calm s is)
told_calm s c false same is = All-nil (IsCalmToClient s)

told_made : (P : Item → Type 0) (on : Bool) (m : Modes) (wish : ℕ) → P (Sub 34 (1 ∷ mode_of wish ∷ [])) → All P (mode_items (modes_told on m wish))
told_made P true m wish p = by_test (mode_of wish == m.asked)
  where
    by_test : (b : Bool) → All P (mode_items (if b then None else Some (mode_of wish)))
    by_test true = All-nil P
    by_test false = one P (Sub 34 (1 ∷ mode_of wish ∷ [])) p
told_made P false m wish p = All-nil P

-- the items that are sent once the options and perhaps a request are new: the table, the mode, the server's
-- ECHO
negotiated_made : (P : Item → Type 0) (was set : Bool) (f : Flags) (c : Characters) (n : Negotiation) → All P (new_table_items was (linemode n.options) c)
    → P (Sub 34 (1 ∷ mode_of n.wish ∷ [])) → ((verb : Verb) → P (Neg verb 1)) → All P (negotiation_items was set f c n)
negotiated_made P was set f c n table p echo =
    let m = modes_before (differ was (linemode n.options)) n.modes in
    All-append P _ _ table (All-append P _ _ (told_made P (linemode n.options) m n.wish p) (echo_made P (is_due was set n) (wants_echo n.opening n.options (masks_by was n).asked f) n.options echo))

-- no table is new if LINEMODE stays
untold_made : (P : Item → Type 0) (was on : Bool) (c : Characters) → on ≡ was → All P (new_table_items was on c)
untold_made P was on c same = subst (All P) (sym (ap (λ (b : Bool). new_table_items was b c) same ∙ table_again was c)) (All-nil P)

sub_calm : (canon : Canon) (old : End) (p : Option Payload) → SaysCalmly p → All (IsCalmToClient canon.settings) (says_sub old p)
sub_calm canon old (Some (payload.Mode mask)) c =
    subst (All (IsCalmToClient canon.settings)) (sym (ap (λ (b : Bool). says_mode_by old (if b then None else Some (edits mask))) c)) (All-nil (IsCalmToClient canon.settings))
sub_calm canon old (Some (payload.Slc triples)) c = absurd c
sub_calm canon old p c = All-nil (IsCalmToClient canon.settings)

pub calm_got : (canon : Canon) (old : End) (item : Item) → ServerStays canon old → IsCalmToServer canon.settings item
    → All (IsCalmToClient canon.settings) (says_item old item)
calm_got canon old (Neg verb option) k (inl e) =
    let P = IsCalmToClient canon.settings in
    let o = old.terms.options in
    All-append P _ _ (reply_made P o verb option (λ v. inl e))
    (negotiated_made P (linemode o) false old.terminal.settings.flags old.table (negotiation_heard old verb option)
    (untold_made P (linemode o) (linemode (options_after_word o verb option)) old.table (words_keep_linemode o verb option e))
    (wish_asked canon.settings old.terminal.settings.flags old.terms.wish k.flags k.wish) (λ v. inl refl))
calm_got canon old (Neg verb option) k (inr t) =
    let P = IsCalmToClient canon.settings in
    let o = old.terms.options in
    All-append P _ _
    (subst (λ (v : Verb). All P (word_items (reply_to o v option))) (sym t.0)
    (subst (λ (x : ℕ). All P (word_items (reply_to o Will x))) (sym t.1) (server_asks P o k.agreed k.linemode (inr (refl, refl, t.2)))))
    (negotiated_made P (linemode o) false old.terminal.settings.flags old.table (negotiation_heard old verb option)
    (told_calm canon.settings old.table (linemode (options_after_word o verb option) && not (linemode o)) k.chars t.2)
    (wish_asked canon.settings old.terminal.settings.flags old.terms.wish k.flags k.wish) (λ v. inl refl))
calm_got canon old (Sub option params) k c =
    sub_calm canon old (payload_at old.terms.options (Sub option params)) (calm_at canon.settings old.terms.options (Sub option params) c)
calm_got canon old item k c = All-nil (IsCalmToClient canon.settings)

-- CALM ITEMS, one after another
pub record After (canon : Canon) (old : End) (items : List Item) : Type 0 where
  pub stays : ServerStays canon (end_after_items old items)
  pub core : server_core (end_after_items old items) ≡ read_all canon (server_core old) items
  pub calm : All (IsCalmToClient canon.settings) (says_items old items)

pub goes_on : (canon : Canon) (old : End) (items : List Item) → ServerStays canon old → All Fits items
    → All (IsCalmToServer canon.settings) items → After canon old items
goes_on canon old [] k f c = record { stays = k; core = refl; calm = All-nil (IsCalmToClient canon.settings) }
goes_on canon old (item ∷ items) k f c =
    let new = end_after_item old item in
    let calm = All-head (IsCalmToServer canon.settings) item items c in
    let later = goes_on canon new items (stays_got canon old item k calm) (All-tail Fits item items f) (All-tail (IsCalmToServer canon.settings) item items c) in
    record {
      stays = later.stays;
      core = later.core ∙ ap (λ (v : Server). read_all canon v items) (core_got canon old item k (All-head Fits item items f) calm);
      calm = All-append (IsCalmToClient canon.settings) (says_item old item) (says_items new items) (calm_got canon old item k calm) later.calm;
    }

-- the decoder, a failure and a terminal that is shut have no part in it
pub stays_fed : (canon : Canon) (old new : End) → new ≡ record old { decoder = new.decoder } → ServerStays canon old → ServerStays canon new
stays_fed canon old new is k =
    stays_aside canon old new (ap (λ (e : End). e.terms) is) (ap (λ (e : End). e.table) is) (ap (λ (e : End). e.terminal.settings) is)
    (ap (λ (e : End). e.terminal.line.limit) is) (ap (λ (e : End). e.terminal.line.ahead) is) k

-- THE OWNER'S CALLS that change no character
abbrev pub IsCall : Event → Type 0
IsCall (got item) = ⊥
IsCall (char_set func value) = ⊥
IsCall _ = Unit {0}

-- the owner's calls that take no entry
abbrev pub KeepsEntries : Event → Type 0
KeepsEntries (got item) = ⊥
KeepsEntries (char_set func value) = ⊥
KeepsEntries took = ⊥
KeepsEntries _ = Unit {0}

pub calls : (e : Event) → KeepsEntries e → IsCall e
calls (got item) p = absurd p
calls took p = absurd p
calls (char_set func value) p = absurd p
calls _ p = tt

wished_calm : (canon : Canon) (old : End) (ed : Editing) (mask : Option ℕ) → mask_for old.terminal.settings.flags ed ≡ mask → ServerStays canon old
    → All (IsCalmToClient canon.settings) (says_wished old mask)
wished_calm canon old ed None e k = All-nil (IsCalmToClient canon.settings)
wished_calm canon old ed (Some mask) e k =
    let P = IsCalmToClient canon.settings in
    let l = linemode old.terms.options in
    negotiated_made P l false old.terminal.settings.flags old.table (negotiation_wishing old mask) (untold_made P l l old.table refl)
    (mask_asked canon.settings old.terminal.settings.flags ed mask k.flags e) (λ v. inl refl)

-- symbols that are pulled
pub pulled_made : (P : Item → Type 0) → ((b : ℕ) → P (Byte b)) → P Newline → (symbols : List Symbol) → All P (map data_of symbols)
pulled_made P byte newline [] = All-nil P
pulled_made P byte newline (symbol.Byte b ∷ symbols) = All-cons P (Byte b) (map data_of symbols) (byte b) (pulled_made P byte newline symbols)
pulled_made P byte newline (symbol.Newline ∷ symbols) = All-cons P Newline (map data_of symbols) newline (pulled_made P byte newline symbols)

pub ga_made : (P : Item → Type 0) → P (Cmd Ga) → (b : Bool) → All P (if b then Cmd Ga ∷ [] else [])
ga_made P p true = one P (Cmd Ga) p
ga_made P p false = All-nil P

-- a forward mask
mask_calm : (s : Settings) (octets : List ℕ) (b : Bool) → AsksCalmly s (if b then Some (payload.ForwardOn (record { 0 = filled_octets octets })) else None)
mask_calm s octets true = tt
mask_calm s octets false = tt

pub calm_call : (canon : Canon) (old : End) (e : Event) → IsCall e → ServerStays canon old → All (IsCalmToClient canon.settings) (says old e)
calm_call canon old took is k = ga_made (IsCalmToClient canon.settings) tt (owes_ga old old.terminal.entries)
calm_call canon old (wrote bytes) is k = All-nil (IsCalmToClient canon.settings)
calm_call canon old (pulled n) is k = pulled_made (IsCalmToClient canon.settings) (λ b. tt) tt (take n old.terminal.queue)
calm_call canon old (wished ed) is k = wished_calm canon old ed (mask_for old.terminal.settings.flags ed) refl k
calm_call canon old (echo_set on) is k =
    echo_made (IsCalmToClient canon.settings) true (wants_echo old.terms.opening old.terms.options old.modes.asked (flags_with_echo old on)) old.terms.options (λ v. inl refl)
calm_call canon old (mask_set (Some mask)) is k =
    let octets = trimmed_octets (take 32 mask.0) in
    one (IsCalmToClient canon.settings) (Sub 34 (253 ∷ 2 ∷ octets)) (mask_calm canon.settings octets (nat_le (length octets) 32))
calm_call canon old (mask_set None) is k = one (IsCalmToClient canon.settings) (Sub 34 (254 ∷ 2 ∷ [])) tt
calm_call canon old _ is k = absurd is

stays_wished : (canon : Canon) (old : End) (ed : Editing) (mask : Option ℕ) → mask_for old.terminal.settings.flags ed ≡ mask → ServerStays canon old
    → ServerStays canon (end_after_wish old mask)
stays_wished canon old ed None e k = k
stays_wished canon old ed (Some mask) e k =
    stays_negotiated canon old (linemode old.terms.options) false old.terminal.settings.flags (negotiation_wishing old mask) k.agreed k.linemode
    (allowed_wish old.terminal.settings.flags ed mask e) k

pub stays_call : (canon : Canon) (old : End) (e : Event) → IsCall e → ServerStays canon old → ServerStays canon (end_after old e)
stays_call canon old took is k = stays_aside canon old (end_after old took) refl refl refl refl refl k
stays_call canon old (wrote bytes) is k = stays_aside canon old (end_after old (wrote bytes)) refl refl refl refl refl k
stays_call canon old (pulled n) is k = stays_aside canon old (end_after old (pulled n)) refl refl refl refl refl k
stays_call canon old (wished ed) is k = stays_wished canon old ed (mask_for old.terminal.settings.flags ed) refl k
stays_call canon old (echo_set on) is k =
    let wanted = wants_echo old.terms.opening old.terms.options old.modes.asked (flags_with_echo old on) in
    record {
      agreed = echo_agrees true wanted old.terms.options ∙ k.agreed;
      linemode = subst NeverEnds (sym (echo_keeps_state true wanted old.terms.options)) k.linemode;
      wish = k.wish;
      chars = k.chars;
      own = k.own;
      flags = ap (λ (f : Flags). record f { echo = on }) k.flags;
      limit = k.limit;
      ahead = k.ahead;
    }
stays_call canon old (mask_set mask) is k = k
stays_call canon old _ is k = absurd is

-- a request and the flag ECHO change nothing at LINEMODE
core_wished : (old : End) (mask : Option ℕ) → server_core (end_after_wish old mask) ≡ server_core old
core_wished old None = refl
core_wished old (Some mask) =
    let l = linemode old.terms.options in
    core_negotiated old l false old.terminal.settings.flags (negotiation_wishing old mask) ∙ turned_same old l

pub core_call : (old : End) (e : Event) → KeepsEntries e → server_core (end_after old e) ≡ server_core old
core_call old (wrote bytes) is = refl
core_call old (pulled n) is = refl
core_call old (wished ed) is = core_wished old (mask_for old.terminal.settings.flags ed)
core_call old (echo_set on) is =
    ap (λ (b : Bool). record (server_core old) { linemode = b })
    (echo_keeps_linemode true (wants_echo old.terms.opening old.terms.options old.modes.asked (flags_with_echo old on)) old.terms.options)
core_call old (mask_set mask) is = refl
core_call old _ is = absurd is
