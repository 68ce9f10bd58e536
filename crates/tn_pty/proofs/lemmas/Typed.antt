-- Bytes that come to the master, one after another.
use Rattle.std.proofs.Common.{◌≡◌, ◌<◌, ◌≤◌, ℕ, suc, ◌+◌, ◌-◌, min, nat_le, Bool, true, false, ◌&&◌, All, List, [], ◌∷◌, ◌++◌, length, map, take, drop, get_or}
use Rattle.std.proofs.Common.{Result, Ok, Err, OnOk, refl, sym, ap, subst, ◌∙◌, if◌then◌else◌, arith, append-nil, append_assoc, length-append, length-take}
use Rattle.std.proofs.{Math.Seq.take-add, lemmas.List.{take-append-drop, take_all, take_more, drop_more, length-drop, Elements.{All-take, All-drop}}}
use Rattle.tn_discipline.specs.{HalfLine.{HalfLine, line_length, is_full, effect_of, line_after}, Keys.{roles_of, role_of_key, literal_role}}
use Rattle.tn_discipline.specs.{Characters.Characters, Limits.max_counted, RolesTable.IsPlain, Runs.{line_after_all, gains_from}, Advancing.Advances}
use Rattle.tn_discipline.specs.{Echo.{echo_at, one_shown, ordinary_shown}, declared.{termios.Settings.Settings, reads.Entry.Entry, keys.Role.Role}}
use Rattle.tn_discipline.specs.declared.echo.Symbol.{Symbol, TheVariants.Byte}
use Rattle.tn_discipline.specs.declared.keys.Role.TheVariants as role
use Rattle.tn_discipline.specs.declared.half_line.Effect.TheVariants as effect
use Rattle.tn_discipline.proofs.lemmas.{KeyRoles.literal_roles, Lines.{advances, advances_nothing}}
use Rattle.tn_discipline.proofs.lemmas.Runs.{keys_advance, advances_both, ordinary_gains, not_full, is_filled, one_kept}
use Rattle.tn_pty.specs.{Terminal.{Terminal, queue_symbols, queue_with, queue_with_each}, Faults.{Accepts, AcceptsAll, Refuses, StopsWithin}}
use Rattle.tn_pty.specs.{Typing.{gain_of, symbols_in, terminal_after, role_of_input, after_byte, after_all, input_gains}, declared.pty.Input.Input}
use Rattle.tn_pty.specs.declared.pty.{Input.TheVariants.{Keys, Edited}, PtyFault.PtyFault}

module _ (input : Input) where
  pub input-settings : (old : Terminal) (bytes : List ℕ) → (after_all input old bytes).settings ≡ old.settings
  input-settings old [] = refl
  input-settings old (byte ∷ bytes) = input-settings (after_byte input old byte) bytes

  pub input-closed : (old : Terminal) (bytes : List ℕ) → (after_all input old bytes).closed ≡ old.closed
  input-closed old [] = refl
  input-closed old (byte ∷ bytes) = input-closed (after_byte input old byte) bytes

  pub input-line : (old : Terminal) (bytes : List ℕ) → (after_all input old bytes).line ≡ line_after_all old.line (map (role_of_input input old.settings) bytes)
  input-line old [] = refl
  input-line old (byte ∷ bytes) = input-line (after_byte input old byte) bytes

  pub input-entries : (old : Terminal) (bytes : List ℕ) → (after_all input old bytes).entries ≡ old.entries ++ input_gains input old bytes
  input-entries old [] = sym (append-nil old.entries)
  input-entries old (byte ∷ bytes) =
      input-entries (after_byte input old byte) bytes
      ∙ append_assoc old.entries (gain_of old.line (role_of_input input old.settings byte)) (input_gains input (after_byte input old byte) bytes)

  pub after-append : (old : Terminal) (xs ys : List ℕ) → after_all input old (xs ++ ys) ≡ after_all input (after_all input old xs) ys
  after-append old [] ys = refl
  after-append old (byte ∷ xs) ys = after-append (after_byte input old byte) xs ys

  pub accepts-append : (old : Terminal) (xs ys : List ℕ) → AcceptsAll input old xs → AcceptsAll input (after_all input old xs) ys
      → AcceptsAll input old (xs ++ ys)
  accepts-append old [] ys a b = b
  accepts-append old (byte ∷ xs) ys a b = (a.0, accepts-append (after_byte input old byte) xs ys a.1 b)

-- bytes of an edited line have each one role
literals_advance : (chars : Characters) (bytes : List ℕ) (line : HalfLine) → let roles =
    map (literal_role chars) bytes in Advances line roles (gains_from line roles) (line_after_all line roles)
literals_advance chars [] line = advances_nothing line
literals_advance chars (byte ∷ bytes) line =
    let r = literal_role chars byte in
    let rest = map (literal_role chars) bytes in
    let next = line_after line r in
    let one : Advances line (r ∷ []) (gain_of line r) next = subst (λ roles. Advances line roles (gain_of line r) next) (literal_roles chars byte)
    (advances line r) in
    advances_both line next (line_after_all next rest) (r ∷ []) rest (gain_of line r) (gains_from next rest) one (literals_advance chars bytes next)

-- the roles that bytes give to the whole lists: a key that is dropped gives none
abbrev pub roles_given : Input → Settings → List ℕ → List Role
roles_given (Keys echo) settings keys = roles_of settings keys
roles_given Edited settings bytes = map (literal_role settings.chars) bytes

input_advances : (input : Input) (settings : Settings) (bytes : List ℕ) (line : HalfLine)
    → let each = map (role_of_input input settings) bytes in
    Advances line (roles_given input settings bytes) (gains_from line each) (line_after_all line each)
input_advances (Keys echo) settings keys line = keys_advance settings keys line
input_advances Edited settings bytes line = literals_advance settings.chars bytes line

module _ (input : Input) where
  -- the effect of bytes is the one that the whole lists of keys give
  pub run_advance : (old new : Terminal) (bytes : List ℕ) → new ≡ after_all input old bytes
      → Advances old.line (roles_given input old.settings bytes) (input_gains input old bytes) new.line
  run_advance old new bytes is =
      subst (λ (line : HalfLine). Advances old.line (roles_given input old.settings bytes) (input_gains input old bytes) line)
      (sym (ap (λ (t : Terminal). t.line) is ∙ input-line input old bytes))
      (input_advances input old.settings bytes old.line)

  -- a call that may have been refused advances so, if it is Ok
  pub run_advance_or : {T E : Type 0} (r : Result T E) (old new : Terminal) (bytes : List ℕ) → OnOk r (new ≡ after_all input old bytes)
      → OnOk r (Advances old.line (roles_given input old.settings bytes) (input_gains input old bytes) new.line)
  run_advance_or (Ok x) old new bytes is = run_advance old new bytes is
  run_advance_or (Err e) old new bytes is = tt

  pub run_entries_or : {T E : Type 0} (r : Result T E) (old new : Terminal) (bytes : List ℕ) → OnOk r (new ≡ after_all input old bytes)
      → OnOk r (new.entries ≡ old.entries ++ input_gains input old bytes)
  run_entries_or (Ok x) old new bytes is = ap (λ (t : Terminal). t.entries) is ∙ input-entries input old bytes
  run_entries_or (Err e) old new bytes is = tt

-- the rest of the bytes
pub left_of : (i : ℕ) (bytes : List ℕ) → take (length bytes - i) (drop i bytes) ≡ drop i bytes
left_of i bytes = take_all (length bytes - i) (drop i bytes) (omega (arith, length-drop i bytes))

module _ (input : Input) (old mid new : Terminal) (bytes : List ℕ) (i : ℕ) (before : mid ≡ after_all input old (take i bytes))
    (accepted : AcceptsAll input old (take i bytes)) where
  -- bytes that were taken, and some more of those that are left
  pub after_more : (n : ℕ) → new ≡ after_all input mid (take n (take (length bytes - i) (drop i bytes))) → new ≡ after_all input old (take (i + n) bytes)
  after_more n is =
      is
      ∙ ap (λ xs. after_all input mid (take n xs)) (left_of i bytes)
      ∙ ap (λ (t : Terminal). after_all input t (take n (drop i bytes))) before
      ∙ sym (after-append input old (take i bytes) (take n (drop i bytes)))
      ∙ ap (after_all input old) (sym (take-add i n bytes))

  pub accepts_more : (n : ℕ) → AcceptsAll input mid (take n (take (length bytes - i) (drop i bytes))) → AcceptsAll input old (take (i + n) bytes)
  accepts_more n more =
      let front : AcceptsAll input mid (take n (drop i bytes)) = subst (λ xs. AcceptsAll input mid (take n xs)) (left_of i bytes) more in
      let there : AcceptsAll input (after_all input old (take i bytes)) (take n (drop i bytes)) =
      subst (λ (t : Terminal). AcceptsAll input t (take n (drop i bytes))) before front in
      subst (AcceptsAll input old) (sym (take-add i n bytes)) (accepts-append input old (take i bytes) (take n (drop i bytes)) accepted there)

  -- bytes that were taken, and then a byte of those that are left, which was refused
  pub stops_more : (fault : PtyFault) → StopsWithin input mid (take (length bytes - i) (drop i bytes)) fault new → StopsWithin input old bytes fault new
  stops_more fault stops =
      let settings : mid.settings ≡ old.settings = ap (λ (t : Terminal). t.settings) before ∙ input-settings input old (take i bytes) in
      let rest : drop i bytes ≡ stops.done ++ stops.byte ∷ stops.left = sym (left_of i bytes) ∙ stops.whole in
      record {
        done = take i bytes ++ stops.done;
        byte = stops.byte;
        left = stops.left;
        whole =
            sym (take-append-drop i bytes) ∙ ap (λ xs. take i bytes ++ xs) rest
            ∙ sym (append_assoc (take i bytes) stops.done (stops.byte ∷ stops.left));
        accepted = accepts-append input old (take i bytes) stops.done accepted (subst (λ (t : Terminal). AcceptsAll input t stops.done) before stops.accepted);
        refused =
            subst (λ (t : Terminal). Refuses t (role_of_input input old.settings stops.byte) fault new)
            (ap (λ (t : Terminal). after_all input t stops.done) before ∙ sym (after-append input old (take i bytes) stops.done))
            (subst (λ s. Refuses (after_all input mid stops.done) (role_of_input input s stops.byte) fault new) settings stops.refused);
      }

  -- the next byte is taken too
  pub after_next : i < length bytes → new ≡ after_byte input mid (get_or bytes i 0) → new ≡ after_all input old (take (i + 1) bytes)
  after_next within is =
      let byte = get_or bytes i 0 in
      is
      ∙ ap (λ (t : Terminal). after_byte input t byte) before
      ∙ sym (after-append input old (take i bytes) (byte ∷ []))
      ∙ ap (after_all input old) (sym (take_more bytes i 0 within))

  pub accepts_next : i < length bytes → Accepts mid (role_of_input input mid.settings (get_or bytes i 0)) → AcceptsAll input old (take (i + 1) bytes)
  accepts_next within accepts =
      let byte = get_or bytes i 0 in
      let there : Accepts (after_all input old (take i bytes)) (role_of_input input (after_all input old (take i bytes)).settings byte) =
      subst (λ (t : Terminal). Accepts t (role_of_input input t.settings byte)) before accepts in
      subst (AcceptsAll input old) (sym (take_more bytes i 0 within)) (accepts-append input old (take i bytes) (byte ∷ []) accepted (there, tt))

  -- the next byte was refused
  pub stops_at : (fault : PtyFault) → i < length bytes → Refuses mid (role_of_input input mid.settings (get_or bytes i 0)) fault new
      → StopsWithin input old bytes fault new
  stops_at fault within refuses =
      let byte = get_or bytes i 0 in
      let settings : mid.settings ≡ old.settings = ap (λ (t : Terminal). t.settings) before ∙ input-settings input old (take i bytes) in
      record {
        done = take i bytes;
        byte = byte;
        left = drop (i + 1) bytes;
        whole = sym (take-append-drop i bytes) ∙ ap (λ xs. take i bytes ++ xs) (drop_more bytes i 0 within);
        accepted = accepted;
        refused = subst (λ (t : Terminal). Refuses t (role_of_input input old.settings byte) fault new) before
            (subst (λ s. Refuses mid (role_of_input input s byte) fault new) settings refuses);
      }

-- keys that join the line as they are
abbrev pub ArePlain : Terminal → List ℕ → Type 0
ArePlain old keys = All (IsPlain old.settings) keys

plain_first : (old : Terminal) (key : ℕ) (keys : List ℕ) → ArePlain old (key ∷ keys) → IsPlain old.settings key
plain_first old key keys plain = plain 0 0 (omega arith)

plain_rest : (old : Terminal) (key : ℕ) (keys : List ℕ) → ArePlain old (key ∷ keys) → ArePlain old keys
plain_rest old key keys plain = λ k d lt. plain (suc k) d (omega (arith, lt))

accepts_one : (old : Terminal) (r : Role) (byte : ℕ) → old.closed ≡ false → r ≡ role.Ordinary byte → Accepts old r
accepts_one old r byte takes is = rw is (record { opened = takes; room = λ gives. cc })

pub accepts_plain : (echo : Bool) (old : Terminal) (keys : List ℕ) → old.closed ≡ false → ArePlain old keys → AcceptsAll (Keys echo) old keys
accepts_plain echo old [] takes plain = tt
accepts_plain echo old (key ∷ keys) takes plain = (
  accepts_one old (role_of_key old.settings key) key takes (plain_first old key keys plain),
  accepts_plain echo (after_byte (Keys echo) old key) keys takes (plain_rest old key keys plain),
)

-- the queue after these symbols, if they are shown
abbrev pub queue_shown : Bool → List Symbol → List Symbol → List Symbol
queue_shown shown queue symbols = if shown then queue_with_each queue symbols else queue

shown_more : (shown : Bool) (queue : List Symbol) (x : Symbol) (xs : List Symbol)
    → queue_shown shown (queue_shown shown queue (x ∷ [])) xs ≡ queue_shown shown queue (x ∷ xs)
shown_more true queue x xs = refl
shown_more false queue x xs = refl

none_by : (fits : Bool) (queue : List Symbol) → (if fits then queue ++ [] else queue) ≡ queue
none_by true queue = append-nil queue
none_by false queue = refl

-- nothing shown leaves the queue as it is
pub queue_still : (queue : List Symbol) → queue_with queue [] ≡ queue
queue_still queue = none_by (nat_le (length queue + 0) queue_symbols) queue

-- the byte that is shown
abbrev byte_shown : Bool → ℕ → ℕ
byte_shown full byte = if full then 7 else byte

shown_one : (echo flag full : Bool) (byte : ℕ) (queue : List Symbol)
    → queue_with queue (if echo then symbols_in (one_shown flag (ordinary_shown byte (if full then effect.Dropped else effect.Kept))) else [])
    ≡ queue_shown (echo && flag) queue (Byte (byte_shown full byte) ∷ [])
shown_one true true true byte queue = refl
shown_one true true false byte queue = refl
shown_one true false full byte queue = queue_still queue
shown_one false true full byte queue = queue_still queue
shown_one false false full byte queue = queue_still queue

pub same_parts : (old : Terminal) (l m : HalfLine) (e f : List Entry) (q r : List Symbol) → l ≡ m → e ≡ f → q ≡ r
    → let left : Terminal = record old { line = l; entries = e; queue = q } in let right : Terminal =
    record old { line = m; entries = f; queue = r } in left ≡ right
same_parts old l m e f q r x y z = rw (x, y, z)

-- a key that joins the line as it is, by whether the line is full
typed_one : (echo : Bool) (old : Terminal) (key : ℕ) (full : Bool) (line : HalfLine) → IsPlain old.settings key → is_full old.line ≡ full
    → line_after old.line (role.Ordinary key) ≡ line
    → after_byte (Keys echo) old key ≡ record old {
      line = line;
      queue = queue_shown (echo && old.settings.flags.echo) old.queue (Byte (byte_shown full key) ∷ []);
    }
typed_one echo old key full line plain test after =
    ap (λ r. terminal_after old r (if echo then symbols_in (echo_at old.settings.flags r (effect_of old.line r)) else [])) plain
    ∙ same_parts old _ _ _ _ _ _ after
    (ap (λ gain. old.entries ++ gain) (ordinary_gains old.line key) ∙ append-nil old.entries)
    (ap (λ (b : Bool). queue_with old.queue (if echo then symbols_in
    (one_shown old.settings.flags.echo (ordinary_shown key (if b then effect.Dropped else effect.Kept))) else [])) test
    ∙ shown_one echo old.settings.flags.echo full key old.queue)

shown_none : (shown : Bool) (queue : List Symbol) → queue ≡ queue_shown shown queue []
shown_none true queue = refl
shown_none false queue = refl

-- the terminal with these bytes in its line, and with this queue
abbrev pub with_kept : Terminal → List ℕ → List Symbol → Terminal
with_kept old bytes queue = record old { line = record (old.line) { held = old.line.held ++ bytes }; queue = queue }

same_kept : (old : Terminal) (xs ys : List ℕ) (q r : List Symbol) → xs ≡ ys → q ≡ r → let left : Terminal =
    record old { line = record (old.line) { held = xs }; queue = q } in let right : Terminal =
    record old { line = record (old.line) { held = ys }; queue = r } in left ≡ right
same_kept old xs ys q r x y = rw (x, y)

-- keys that fit
pub typed_kept : (echo : Bool) (keys : List ℕ) (old : Terminal) → ArePlain old keys → line_length old.line + length keys ≤ max_counted old.line.limit
    → after_all (Keys echo) old keys ≡ with_kept old keys (queue_shown (echo && old.settings.flags.echo) old.queue (map (λ b. Byte b) keys))
typed_kept echo [] old plain fits =
    let shown = echo && old.settings.flags.echo in
    same_kept old old.line.held (old.line.held ++ []) old.queue (queue_shown shown old.queue []) (sym (append-nil old.line.held)) (shown_none shown old.queue)
typed_kept echo (key ∷ keys) old plain fits =
    let shown = echo && old.settings.flags.echo in
    let queue = queue_shown shown old.queue (Byte key ∷ []) in
    let mid = with_kept old (key ∷ []) queue in
    let room : line_length old.line < max_counted old.line.limit = omega (arith, fits) in
    ap (λ t. after_all (Keys echo) t keys)
    (typed_one echo old key false (record (old.line) { held = old.line.held ++ key ∷ [] }) (plain_first old key keys plain) (not_full old.line room)
    (one_kept old.line key room))
    ∙ typed_kept echo keys mid (plain_rest old key keys plain) (omega (arith, fits, length-append old.line.held (key ∷ [])))
    ∙ same_kept old _ _ _ _ (append_assoc old.line.held (key ∷ []) keys) (shown_more shown old.queue (Byte key) (map (λ b. Byte b) keys))

-- keys that do not
pub typed_dropped : (echo : Bool) (keys : List ℕ) (old : Terminal) → ArePlain old keys → (0 < length keys → line_length old.line ≡ max_counted old.line.limit)
    → after_all (Keys echo) old keys ≡ record old { queue = queue_shown (echo && old.settings.flags.echo) old.queue (map (λ b. Byte 7) keys) }
typed_dropped echo [] old plain full =
    let shown = echo && old.settings.flags.echo in
    same_kept old old.line.held old.line.held old.queue (queue_shown shown old.queue []) refl (shown_none shown old.queue)
typed_dropped echo (key ∷ keys) old plain full =
    let shown = echo && old.settings.flags.echo in
    let queue = queue_shown shown old.queue (Byte 7 ∷ []) in
    let mid : Terminal = record old { queue = queue } in
    let filled = is_filled old.line (full (omega arith)) in
    ap (λ t. after_all (Keys echo) t keys)
    (typed_one echo old key true old.line (plain_first old key keys plain) filled
    (ap (λ (t : Bool). if t then old.line else record (old.line) { held = old.line.held ++ key ∷ [] }) filled))
    ∙ typed_dropped echo keys mid (plain_rest old key keys plain) (λ some. full (omega arith))
    ∙ same_kept old old.line.held old.line.held _ _ refl (shown_more shown old.queue (Byte 7) (map (λ b. Byte 7) keys))

plain_front : (old : Terminal) (keys : List ℕ) (n : ℕ) → ArePlain old keys → ArePlain old (take n keys)
plain_front old keys n plain = All-take (IsPlain old.settings) n keys plain

-- keys of which the first fit and the others do not
pub typed_plain : (echo : Bool) (keys : List ℕ) (old : Terminal) (n : ℕ) → ArePlain old keys
    → n ≡ min (max_counted old.line.limit - line_length old.line) (length keys) → line_length old.line ≤ max_counted old.line.limit
    → let shown = echo && old.settings.flags.echo in
    after_all (Keys echo) old keys ≡ with_kept old (take n keys)
    (queue_shown shown (queue_shown shown old.queue (map (λ b. Byte b) (take n keys))) (map (λ b. Byte 7) (drop n keys)))
typed_plain echo keys old n plain is fits =
    let shown = echo && old.settings.flags.echo in
    let mid = with_kept old (take n keys) (queue_shown shown old.queue (map (λ b. Byte b) (take n keys))) in
    let front = length-take n keys in
    let whole : length keys ≡ length (take n keys) + length (drop n keys) =
    ap length (sym (take-append-drop n keys)) ∙ length-append (take n keys) (drop n keys) in
    let long = length-append old.line.held (take n keys) in
    ap (after_all (Keys echo) old) (sym (take-append-drop n keys))
    ∙ after-append (Keys echo) old (take n keys) (drop n keys)
    ∙ ap (λ t. after_all (Keys echo) t (drop n keys)) (typed_kept echo (take n keys) old (plain_front old keys n plain) (omega (arith, is, front, fits)))
    ∙ typed_dropped echo (drop n keys) mid (All-drop (IsPlain old.settings) n keys plain) (λ some. omega (arith, is, front, whole, long, some, fits))

-- a line and a queue that are known to be those after the keys
pub typed_shown : (echo shown : Bool) (keys : List ℕ) (old : Terminal) (n : ℕ) (line : HalfLine) (queue : List Symbol) → ArePlain old keys
    → n ≡ min (max_counted old.line.limit - line_length old.line) (length keys) → line_length old.line < old.line.limit
    → line ≡ record (old.line) { held = old.line.held ++ take n keys } → (echo && old.settings.flags.echo) ≡ shown
    → queue ≡ queue_shown shown (queue_shown shown old.queue (map (λ b. Byte b) (take n keys))) (map (λ b. Byte 7) (drop n keys))
    → let new : Terminal = record old { line = line; queue = queue } in new ≡ after_all (Keys echo) old keys
typed_shown echo shown keys old n line queue plain is fits held test after =
    let back : queue ≡ queue_shown (echo && old.settings.flags.echo) (queue_shown (echo && old.settings.flags.echo) old.queue (map (λ b. Byte b) (take n keys)))
    (map (λ b. Byte 7) (drop n keys)) =
    after ∙ ap (λ (b : Bool). queue_shown b (queue_shown b old.queue (map (λ b. Byte b) (take n keys))) (map (λ b. Byte 7) (drop n keys))) (sym test) in
    same_parts old line _ old.entries old.entries queue _ held refl back
    ∙ sym (typed_plain echo keys old n plain is (omega (arith, fits)))
