-- The effects of keys and changes of the mode on the relation between what was typed, the server once it has
-- read all that is in flight to it, and the client.
use Rattle.std.proofs.Common.{◌≡◌, ◌≤◌, inl, inr, ℕ, ◌+◌, ◌==◌, Bool, true, false, not, ◌&&◌, Option, Some, None, List, [], ◌∷◌, ◌++◌, length, refl, sym, ap, ◌∙◌, if◌then◌else◌, subst}
use Rattle.std.proofs.Common.{arith, append-nil, append_assoc, length-append}
use Rattle.tn_codes.specs.declared.{codes.{Command.TheVariants.Ip, Verb.TheVariants.Will}, masks.Mask.Mask}
use Rattle.tn_discipline.specs.declared.keys.Role.TheVariants as role
use Rattle.tn_discipline.specs.{declared.reads.{Entry.Entry, Sig.TheVariants.Int}, Admitted.{is_dropped, next_count, count_after}, Canon.{Canon, typed_half}}
use Rattle.tn_discipline.specs.{Limits.max_counted, Steps.{half_after, half_next, gain_next}, declared.termios.Settings.Settings, HalfLine.HalfLine}
use Rattle.tn_discipline.specs.Keys.{role_of_key, roles_of, standard_flags, mapped_key, signal_of, role_by_signal, role_or_ignored, roles_from}
use Rattle.tn_discipline.specs.{Characters.{Characters, is_set_to}, declared.{keys.Role.Role, reads.Sig.Sig}}
use Rattle.tn_discipline.specs.declared.reads.Entry.TheVariants as entry
use Rattle.tn_discipline.proofs.lemmas.Histories.{half_of-fits, length_by_test}
use Rattle.tn_server.specs.Terms.{allows_local}
use Rattle.tn_nvt.specs.{Spelling.lf, declared.items.Item.TheVariants.{Byte, Newline, Cmd, Neg, Sub}}
use Rattle.tn_client.specs.{Lines.{settings_by, role_of_typed}, Calls.End, Replies.{raw_items, typed_items, edit_items, byte_items, end_of_edit_items}}
use Rattle.tn_client.specs.{Steps.{role_now, line_typed, end_after_key, says_key, says_new_line, with_mode, line_left, count_left, count_told}, Terms.linemode}
use Rattle.tn_linemode.specs.Modes.{edits, traps}
use Rattle.tn_client.proofs.lemmas.Keying.{end_by, says_by}
use Rattle.tn_world.specs.relation.{Calm.{Mode, bits, remote_mode, local_mode, IsAskable}, Pictures.{Server, ClientStays}, Relation.{Agrees, server_at}}
use Rattle.tn_world.proofs.{Machine.{read, read_all}, Reading.{read-bytes_then, half-typed, entries-typed}, Typing.{Follows, literal_key, key-follows}}

pub local_of : (s : Settings) (m : Mode) → IsAskable s m → m.edit ≡ true → (allows_local s.flags ≡ true) × (m ≡ local_mode s)
local_of s m (inl p) e = absurd (let q : m.edit ≡ false = ap (λ (n : Mode). n.edit) p in cc)
local_of s m (inr p) e = p

pub remote_of : (s : Settings) (m : Mode) → IsAskable s m → m.edit ≡ false → m ≡ remote_mode
remote_of s m (inl p) e = p
remote_of s m (inr p) e = absurd (let q : m.edit ≡ true = ap (λ (n : Mode). n.edit) p.1 in cc)

and_left : (a b : Bool) → (a && b) ≡ true → a ≡ true
and_left true b h = refl
and_left false b h = h

and_right : (a b : Bool) → (a && b) ≡ true → b ≡ true
and_right true b h = h
and_right false b h = absurd (cc)

unset : (a : Bool) → not a ≡ true → a ≡ false
unset true h = sym h
unset false h = refl

-- if Local is allowed, the client reads keys as the server's terminal does
pub same_role : (s : Settings) (key : ℕ) → allows_local s.flags ≡ true → role_of_key (settings_by s.flags.isig s.chars) key ≡ role_of_key s key
same_role s key h =
    let later = and_right s.flags.icrnl (not s.flags.inlcr && not s.flags.igncr) h in
    let icrnl = and_left s.flags.icrnl (not s.flags.inlcr && not s.flags.igncr) h in
    let inlcr = unset s.flags.inlcr (and_left (not s.flags.inlcr) (not s.flags.igncr) later) in
    let igncr = unset s.flags.igncr (and_right (not s.flags.inlcr) (not s.flags.igncr) later) in
    let flags = (settings_by s.flags.isig s.chars).flags in
    ap (λ (x : Bool). role_of_key (record { chars = s.chars; flags = record flags { icrnl = x; inlcr = false; igncr = false } }) key) (sym icrnl)
    ∙ ap (λ (x : Bool). role_of_key (record { chars = s.chars; flags = record flags { icrnl = s.flags.icrnl; inlcr = x; igncr = false } }) key) (sym inlcr)
    ∙ ap (λ (x : Bool). role_of_key (record { chars = s.chars; flags = record flags { icrnl = s.flags.icrnl; inlcr = s.flags.inlcr; igncr = x } }) key)
    (sym igncr)

fits_at : (s : Canon) (typed half held : List ℕ) → typed_half s typed ≡ half ++ held → length (half ++ held) ≤ max_counted s.limit
fits_at s typed half held line = subst (λ x. length x ≤ max_counted s.limit) line (half_of-fits s.limit (roles_of s.settings typed))

-- A KEY that is sent at once: it is a byte, if no signal is trapped
raw-tests : (b key : ℕ) (sig : Option Sig) (t u v w x y : Bool) →
    raw_items (if t then role.Nl else (if u then role.Eol b else
    (if y then role.Eol2 b else (if v then role.Eof else (if w then role.Erase else (if x then role.Kill else role_by_signal false sig b)))))) (Byte key) ≡ Byte key
    ∷ []
raw-tests b key sig true u v w x y = refl
raw-tests b key sig false true v w x y = refl
raw-tests b key sig false false v w x true = refl
raw-tests b key sig false false true w x false = refl
raw-tests b key sig false false false true x false = refl
raw-tests b key sig false false false false true false = refl
raw-tests b key sig false false false false false false = refl

raw-mapped : (c : Characters) (key : ℕ) (mapped : Option ℕ) → raw_items
    (role_or_ignored (record { flags = record standard_flags { isig = false }; chars = c }) mapped) (Byte key) ≡ Byte key ∷ []
raw-mapped c key None = refl
raw-mapped c key (Some b) = raw-tests b key (signal_of c b) (b == 10) (is_set_to c.eol b) (is_set_to c.eof b) (is_set_to c.erase b) (is_set_to c.kill b)
    (is_set_to c.eol2 b)

raw-key : (mask : ℕ) (c : Characters) (key : ℕ) → traps mask ≡ false → raw_items (role_of_typed mask c key) (Byte key) ≡ Byte key ∷ []
raw-key mask c key e =
    ap (λ (b : Bool). raw_items (role_of_key (record { flags = record standard_flags { isig = b }; chars = c }) key) (Byte key)) e
    ∙ raw-mapped c key (mapped_key (record standard_flags { isig = false }) key)

-- the count at the client, after one more key
counted : (limit n : ℕ) (r : Role) → count_after limit n (roles_from r) ≡ (if is_dropped limit n r then n else next_count n r)
counted limit n role.Ignored = refl
counted limit n _ = refl

count-one : (limit : ℕ) (s : Settings) (key n : ℕ) (half : List ℕ) (b : Bool) → s.flags.isig ≡ b → allows_local s.flags ≡ true → n ≡ length half
    → count_after limit n (roles_from (role_of_key (settings_by b s.chars) key)) ≡ length (half_next limit half (role_of_key s key))
count-one limit s key n half b isig allowed count =
    ap (λ r. count_after limit n (roles_from r)) (ap (λ (b : Bool). role_of_key (settings_by b s.chars) key) (sym isig) ∙ same_role s key allowed)
    ∙ counted limit n (role_of_key s key)
    ∙ sym (length_by_test (is_dropped limit n (role_of_key s key)) half n (role_of_key s key) (sym count))
    ∙ ap (λ n. length (if is_dropped limit n (role_of_key s key) then half else half_after half (role_of_key s key))) count

count-step : (limit : ℕ) (s : Settings) (key trapped plain : ℕ) (half : List ℕ) (b : Bool) → s.flags.isig ≡ b → allows_local s.flags ≡ true
    → (if b then trapped else plain) ≡ length half → (if b then count_after limit trapped (roles_from (role_of_key (settings_by true s.chars) key))
    else count_after limit plain (roles_from (role_of_key (settings_by false s.chars) key))) ≡ length (half_next limit half (role_of_key s key))
count-step limit s key trapped plain half true isig allowed count = count-one limit s key trapped half true isig allowed count
count-step limit s key trapped plain half false isig allowed count = count-one limit s key plain half false isig allowed count

-- a key, by whether the client edits it
key_by : (canon : Canon) (typed : List ℕ) (taken : List Entry) (v : Server) (c : End) (key : ℕ) (e : Bool) → edits c.mode ≡ e → ClientStays canon c
    → Agrees canon typed taken v c → Agrees canon (typed ++ key ∷ []) taken (read_all canon v (says_by e c key (Byte key))) (end_by e c key)
key_by canon typed taken v c key true is_edit stays a =
    let ok = local_of canon.settings (bits c.mode) a.askable is_edit in
    let l = linemode c.options in
    let r = role_of_key canon.settings key in
    let same : role_now c key ≡ r =
    ap (λ (x : Characters). role_of_typed c.mode x key) stays.chars
    ∙ ap (λ (m : Mode). role_of_key (settings_by m.trapsig canon.settings.chars) key) ok.1 ∙ same_role canon.settings key ok.0 in
    let limited : HalfLine = record c.line { limit = canon.limit } in
    let here : Follows canon l a.half a.waiting c.line.held r (line_typed true c.forward limited r) (edit_items c.forward r limited) =
    key-follows canon l a.half a.waiting c.line.held c.line.ahead a.plain (a.ahead is_edit) (fits_at canon typed a.half c.line.held a.line)
    c.forward r (literal_key canon.settings key) in
    let f : Follows canon l a.half a.waiting c.line.held r (line_typed true c.forward c.line (role_now c key)) (edit_items c.forward (role_now c key) c.line) =
    subst (λ x. Follows canon l a.half a.waiting c.line.held r (line_typed true c.forward c.line x) (edit_items c.forward x c.line)) (sym same)
    (subst (λ n. Follows canon l a.half a.waiting c.line.held r (line_typed true c.forward (record c.line { limit = n }) r)
    (edit_items c.forward r (record c.line { limit = n }))) (sym stays.limit) here) in
    record {
      half = f.half;
      waiting = a.waiting ++ gain_next canon.limit (a.half ++ c.line.held) r;
      is =
          ap (λ x. read_all canon x (says_by true c key (Byte key))) a.is
          ∙ ap (λ e. read_all canon (server_at l e a.half a.waiting) (says_by true c key (Byte key))) is_edit
          ∙ f.reads
          ∙ ap (λ e. server_at l e f.half (a.waiting ++ gain_next canon.limit (a.half ++ c.line.held) r)) (sym is_edit);
      off = a.off;
      entries =
          entries-typed canon typed key
          ∙ ap (λ x. x ++ gain_next canon.limit (typed_half canon typed) r) a.entries
          ∙ ap (λ x. (taken ++ a.waiting) ++ gain_next canon.limit x r) a.line
          ∙ append_assoc taken a.waiting (gain_next canon.limit (a.half ++ c.line.held) r);
      line = half-typed canon typed key ∙ ap (λ x. half_next canon.limit x r) a.line ∙ f.line;
      askable = a.askable;
      ahead = λ e. f.ahead;
      none = λ e. absurd (cc);
      plain = f.plain;
      count = λ e allowed. absurd (cc);
    }
key_by canon typed taken v c key false is_remote stays a =
    let l = linemode c.options in
    let r = role_of_key canon.settings key in
    let off : traps c.mode ≡ false = ap (λ (m : Mode). m.trapsig) (remote_of canon.settings (bits c.mode) a.askable is_remote) in
    let whole : typed_half canon typed ≡ a.half = a.line ∙ ap (λ x. a.half ++ x) (a.none is_remote) ∙ append-nil a.half in
    let counts : (n : ℕ) (isig : Bool) → count_after canon.limit n (roles_from (role_of_key (settings_by isig canon.settings.chars) key))
    ≡ count_after c.line.limit n (roles_from (role_of_key (settings_by isig c.table) key)) =
    λ n isig. ap (λ (x : Characters). count_after canon.limit n (roles_from (role_of_key (settings_by isig x) key))) (sym stays.chars)
    ∙ ap (λ (m : ℕ). count_after m n (roles_from (role_of_key (settings_by isig c.table) key))) (sym stays.limit) in
    record {
      half = half_next canon.limit a.half r;
      waiting = a.waiting ++ gain_next canon.limit a.half r;
      is =
          ap (λ xs. read_all canon v xs) (raw-key c.mode c.table key off)
          ∙ ap (λ x. read canon x (Byte key)) a.is
          ∙ ap (λ e. read canon (server_at l e a.half a.waiting) (Byte key)) is_remote
          ∙ ap (λ e. server_at l e (half_next canon.limit a.half r) (a.waiting ++ gain_next canon.limit a.half r)) (sym is_remote);
      off = a.off;
      entries =
          entries-typed canon typed key
          ∙ ap (λ x. x ++ gain_next canon.limit (typed_half canon typed) r) a.entries
          ∙ ap (λ x. (taken ++ a.waiting) ++ gain_next canon.limit x r) whole
          ∙ append_assoc taken a.waiting (gain_next canon.limit a.half r);
      line =
          half-typed canon typed key
          ∙ ap (λ x. half_next canon.limit x r) whole
          ∙ sym (ap (λ x. half_next canon.limit a.half r ++ x) (a.none is_remote) ∙ append-nil (half_next canon.limit a.half r));
      askable = a.askable;
      ahead = λ e. absurd (cc);
      none = a.none;
      plain = a.plain;
      count = λ e allowed.
          ap (λ n. if canon.settings.flags.isig then n else count_after c.line.limit c.plain (roles_from (role_of_key (settings_by false c.table) key)))
          (sym (counts c.trapped true))
          ∙ ap (λ n. if canon.settings.flags.isig then count_after canon.limit c.trapped (roles_from (role_of_key (settings_by true canon.settings.chars) key))
          else n) (sym (counts c.plain false))
          ∙ count-step canon.limit canon.settings key c.trapped c.plain a.half canon.settings.flags.isig refl allowed (a.count e allowed);
    }

pub key-agrees : (canon : Canon) (typed : List ℕ) (taken : List Entry) (v : Server) (c : End) (key : ℕ) → ClientStays canon c → Agrees canon typed taken v c
    → Agrees canon (typed ++ key ∷ []) taken (read_all canon v (says_key c key)) (end_after_key c key)
key-agrees canon typed taken v c key stays a = key_by canon typed taken v c key (edits c.mode) refl stays a

-- a new line is read as the key LF
same-line : (canon : Canon) (v : Server) (edit : Bool) (forward : Option Mask) (r : Role) (l : HalfLine)
    → read_all canon v (typed_items edit forward r l Newline) ≡ read_all canon v (typed_items edit forward r l (Byte lf))
same-line canon v true forward r l = refl
same-line canon v false forward (role.Signal sig) l = refl
same-line canon v false forward role.Nl l = refl
same-line canon v false forward (role.Eol b) l = refl
same-line canon v false forward (role.Eol2 b) l = refl
same-line canon v false forward role.Eof l = refl
same-line canon v false forward role.Erase l = refl
same-line canon v false forward role.Kill l = refl
same-line canon v false forward role.Ignored l = refl
same-line canon v false forward (role.Ordinary b) l = refl

pub line-agrees : (canon : Canon) (typed : List ℕ) (taken : List Entry) (v : Server) (c : End) → ClientStays canon c → Agrees canon typed taken v c
    → Agrees canon (typed ++ lf ∷ []) taken (read_all canon v (says_new_line c)) (end_after_key c lf)
line-agrees canon typed taken v c stays a =
    subst (λ (u : Server). Agrees canon (typed ++ lf ∷ []) taken u (end_after_key c lf))
    (sym (same-line canon v (edits c.mode) c.forward (role_now c lf) c.line)) (key-agrees canon typed taken v c lf stays a)

-- a command by which the server interrupts, as a key would
pub interrupt-agrees : (canon : Canon) (typed : List ℕ) (taken : List Entry) (v : Server) (c : End) (key : ℕ)
    → role_of_key canon.settings key ≡ role.Signal Int → Agrees canon typed taken v c
    → Agrees canon (typed ++ key ∷ []) taken (read_all canon v (Cmd Ip ∷ [])) c
interrupt-agrees canon typed taken v c key interrupts a =
    record {
      half = a.half;
      waiting = a.waiting ++ entry.Signal Int ∷ [];
      is = ap (λ x. read canon x (Cmd Ip)) a.is;
      off = a.off;
      entries =
          entries-typed canon typed key
          ∙ ap (λ x. x ++ gain_next canon.limit (typed_half canon typed) (role_of_key canon.settings key)) a.entries
          ∙ ap (λ r. (taken ++ a.waiting) ++ gain_next canon.limit (typed_half canon typed) r) interrupts
          ∙ append_assoc taken a.waiting (entry.Signal Int ∷ []);
      line = half-typed canon typed key ∙ ap (λ r. half_next canon.limit (typed_half canon typed) r) interrupts ∙ a.line;
      askable = a.askable;
      ahead = a.ahead;
      none = a.none;
      plain = a.plain;
      count = a.count;
    }

same_if : (b : Bool) (n : ℕ) → (if b then n else n) ≡ n
same_if true n = refl
same_if false n = refl

-- if LINEMODE is on, an acknowledged mode counts
acked : (s : Canon) (l edit : Bool) (half : List ℕ) (waiting : List Entry) (m ack : ℕ) → l ≡ true → edits ack ≡ edits m
    → read s (server_at l edit half waiting) (Sub 34 (1 ∷ ack ∷ [])) ≡ server_at l (edits m) half waiting
acked s l edit half waiting m ack on same =
    ap (λ (b : Bool). read s (server_at b edit half waiting) (Sub 34 (1 ∷ ack ∷ []))) on
    ∙ ap (λ x. server_at true (edits ack) half x) (append-nil waiting)
    ∙ ap (λ (b : Bool). server_at true b half waiting) same
    ∙ ap (λ (b : Bool). server_at b (edits m) half waiting) (sym on)

-- LINEMODE does not go off
still_on : (l : Bool) (A : Type 0) → l ≡ true → l ≡ false → A
still_on l A p q = absurd (cc)

-- A MODE that changes something, by EDIT before and after
abbrev pub mode_by : Bool → Bool → End → ℕ → End
mode_by before after c mask =
    record c {
      mode = mask;
      line = line_left before after (count_told mask c.trapped c.plain) c.line;
      trapped = count_left before after c.line c.trapped;
      plain = count_left before after c.line c.plain;
    }

taken_by : (canon : Canon) (typed : List ℕ) (taken : List Entry) (v : Server) (c : End) (m ack : ℕ) (e f : Bool) → linemode c.options ≡ true → edits ack ≡ edits m
    → edits c.mode ≡ e
    → edits m ≡ f → Agrees canon typed taken v c → IsAskable canon.settings (bits m)
    → Agrees canon typed taken (read_all canon v (end_of_edit_items e f c.line.held ++ Sub 34 (1 ∷ ack ∷ []) ∷ [])) (mode_by e f c m)
taken_by canon typed taken v c m ack true false on same before after a askable =
    let l = linemode c.options in
    let held = c.line.held in
    record {
      half = a.half ++ held;
      waiting = a.waiting;
      is =
          ap (λ x. read_all canon x (byte_items held ++ Sub 34 (1 ∷ ack ∷ []) ∷ [])) a.is
          ∙ ap (λ e. read_all canon (server_at l e a.half a.waiting) (byte_items held ++ Sub 34 (1 ∷ ack ∷ []) ∷ [])) before
          ∙ read-bytes_then canon l a.half a.waiting held (Sub 34 (1 ∷ ack ∷ [])) a.plain
          (let fits = fits_at canon typed a.half held a.line in omega (arith, length-append a.half held))
          ∙ acked canon l true (a.half ++ held) a.waiting m ack on same;
      off = λ e. still_on l (edits m ≡ false) on e;
      entries = a.entries;
      line = a.line ∙ sym (append-nil (a.half ++ held));
      askable = askable;
      ahead = λ e. absurd (cc);
      none = λ e. refl;
      plain = tt;
      count = λ e allowed.
          same_if canon.settings.flags.isig (c.line.ahead + length held)
          ∙ ap (λ n. n + length held) (sym (a.ahead before))
          ∙ sym (length-append a.half held);
    }
taken_by canon typed taken v c m ack false true on same before after a askable =
    let l = linemode c.options in
    record {
      half = a.half;
      waiting = a.waiting;
      is = ap (λ x. read canon x (Sub 34 (1 ∷ ack ∷ []))) a.is ∙ acked canon l (edits c.mode) a.half a.waiting m ack on same;
      off = λ e. still_on l (edits m ≡ false) on e;
      entries = a.entries;
      line = a.line ∙ ap (λ x. a.half ++ x) (a.none before);
      askable = askable;
      ahead = λ e.
          let ok = local_of canon.settings (bits m) askable after in
          sym (a.count before ok.0) ∙ ap (λ (n : Mode). if n.trapsig then c.trapped else c.plain) (sym ok.1);
      none = λ e. refl;
      plain = tt;
      count = λ e allowed. absurd (cc);
    }
taken_by canon typed taken v c m ack true true on same before after a askable =
    let l = linemode c.options in
    record {
      half = a.half;
      waiting = a.waiting;
      is = ap (λ x. read canon x (Sub 34 (1 ∷ ack ∷ []))) a.is ∙ acked canon l (edits c.mode) a.half a.waiting m ack on same;
      off = λ e. still_on l (edits m ≡ false) on e;
      entries = a.entries;
      line = a.line;
      askable = askable;
      ahead = λ e. a.ahead before;
      none = λ e. absurd (cc);
      plain = a.plain;
      count = λ e allowed. absurd (cc);
    }
taken_by canon typed taken v c m ack false false on same before after a askable =
    let l = linemode c.options in
    record {
      half = a.half;
      waiting = a.waiting;
      is = ap (λ x. read canon x (Sub 34 (1 ∷ ack ∷ []))) a.is ∙ acked canon l (edits c.mode) a.half a.waiting m ack on same;
      off = λ e. still_on l (edits m ≡ false) on e;
      entries = a.entries;
      line = a.line;
      askable = askable;
      ahead = λ e. absurd (cc);
      none = λ e. a.none before;
      plain = a.plain;
      count = λ e allowed. a.count before allowed;
    }

pub taken-agrees : (canon : Canon) (typed : List ℕ) (taken : List Entry) (v : Server) (c : End) (m ack : ℕ) → linemode c.options ≡ true
    → edits ack ≡ edits m → Agrees canon typed taken v c → IsAskable canon.settings (bits m)
    → Agrees canon typed taken (read_all canon v (end_of_edit_items (edits c.mode) (edits m) c.line.held ++ Sub 34 (1 ∷ ack ∷ []) ∷ [])) (with_mode c m)
taken-agrees canon typed taken v c m ack on same a askable = taken_by canon typed taken v c m ack (edits c.mode) (edits m) on same refl refl a askable

-- the parts at which the relation does not look
pub beside-agrees : (canon : Canon) (typed : List ℕ) (taken : List Entry) (v : Server) (c new : End) → linemode new.options ≡ linemode c.options
    → new ≡ record c {
      decoder = new.decoder;
      options = new.options;
      forward = new.forward;
      table = new.table;
      width = new.width;
      height = new.height;
      failed = new.failed;
    } → Agrees canon typed taken v c → Agrees canon typed taken v new
beside-agrees canon typed taken v c new same is a =
    subst (λ x. Agrees canon typed taken v x) (sym is) (record {
      half = a.half;
      waiting = a.waiting;
      is = a.is ∙ ap (λ (b : Bool). server_at b (edits c.mode) a.half a.waiting) (sym same);
      off = λ e. a.off (sym same ∙ e);
      entries = a.entries;
      line = a.line;
      askable = a.askable;
      ahead = a.ahead;
      none = a.none;
      plain = a.plain;
      count = a.count;
    })

-- LINEMODE comes on at the client, and at the server once it reads the answer: no line is edited at the client, as before
pub turned-agrees : (canon : Canon) (typed : List ℕ) (taken : List Entry) (v : Server) (c : End) → linemode c.options ≡ false → Agrees canon typed taken v c
    → (new : End) → linemode new.options ≡ true → new ≡ record (mode_by false false c 0) {
      options = new.options;
      forward = new.forward;
    } → Agrees canon typed taken (read_all canon v (Neg Will 34 ∷ [])) new
turned-agrees canon typed taken v c was a new on is =
    let raw = a.off was in
    subst (λ x. Agrees canon typed taken (read_all canon v (Neg Will 34 ∷ [])) x) (sym is) (record {
      half = a.half;
      waiting = a.waiting;
      is =
          ap (λ x. read canon x (Neg Will 34)) a.is
          ∙ ap (λ (l : Bool). read canon (server_at l (edits c.mode) a.half a.waiting) (Neg Will 34)) was
          ∙ ap (λ x. server_at true false a.half x) (append-nil a.waiting)
          ∙ ap (λ (l : Bool). server_at l false a.half a.waiting) (sym on);
      off = λ e. refl;
      entries = a.entries;
      line = a.line;
      askable = inl refl;
      ahead = λ e. absurd (cc);
      none = λ e. a.none raw;
      plain = a.plain;
      count = λ e allowed. a.count raw allowed;
    })
