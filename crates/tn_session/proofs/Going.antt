-- The bytes that were written, one message after another.
use Rattle.std.proofs.Common.{◌≡◌, ℕ, ◌+◌, ◌≤◌, Bool, true, false, not, ◌||◌, ◌&&◌, ◌⊎◌, ⊎_elim, inl, inr, map, List, [], ◌∷◌, ◌++◌, Option, Some, refl, sym}
use Rattle.std.proofs.Common.{ap, ◌∙◌, subst, append_assoc, append-nil, take-append-drop, arith, length, take, drop, zero, suc, nat_eq}
use Rattle.std.proofs.lemmas.{Bool.{false_from_ne_true, not-false, not-true}, Fn.FoldsTo-push, List.map-append}
use Rattle.std.specs.Io.KnownBytes.{Appends, Keeps}
use Rattle.tn_discipline.specs.declared.reads.Entry.{Entry}
use Rattle.tn_nvt.specs.Spelling.{spells}
use Rattle.tn_server.specs.Replies.{items_said}
use Rattle.tn_session.proofs.{lemmas.Noting.total-push, Stopped.stands_more, Stopping.term_stays}
use Rattle.tn_session.specs.{Notes.{Note, Noted, NotesWrite, NotesAll, notes, takes, writes}, Stops.{StandsTold, has_left, term_stops}, Transcripts.IsStep}
use Rattle.tn_session.specs.{Turns.{TurnsMessage, GoesOn, left_one, lefts_of, messages_of, says, is_over, is_marked_whole}, workers.EntryChannel.EntryHand}
use Rattle.tn_session.specs.declared.workers.mail.{Mail.Mail, Sender.TheVariants.Back}
use Rattle.tn_cores.specs.{queue.Queue.putter, streams.{Known.{KnownWriter, KnownWriting}, Telling.Calls, Writing.{Writes, Tells, max_writes}}}
use Rattle.tn_cores.specs.server.{Marks.{Runs, Turns, is_whole, all_whole, no_write_failed, no_writes_failed}, Reaching.{IsTurn, LeadsTo}}
use Rattle.tn_cores.specs.{server.Run.{Run, fail, puts_of}, declared.server.messages.{Put.{Put, TheVariants.Nothing}, ServerMark.ServerMark}}
use Rattle.tn_cores.specs.declared.{messages.Message.{Message, TheVariants.Left}, server.{progress.ServerProgress.ServerProgress, terminal.Term.Term}}
use Rattle.tn_cores.proofs.lemmas.streams.{Telling.{accounts_none, accounts_well, accounts_both}, Writing.{appends_more, appends_kept, appends_none}}
use Rattle.tn_cores.specs.declared.faults.SessionFault.TheVariants as fault
use Rattle.tn_cores.specs.declared.server.messages.ServerMark.TheVariants as mark

pub true_false : true ≡ false → ⊥
true_false e = cc

pub false_true : false ≡ true → ⊥
false_true e = cc

no_rest : (n : ℕ) (bytes : List ℕ) → length bytes ≤ n → drop n bytes ≡ []
no_rest zero [] h = refl
no_rest (suc n) [] h = refl
no_rest zero (x ∷ xs) h = absurd (omega arith)
no_rest (suc n) (x ∷ xs) h = no_rest n xs (omega arith)

-- the bytes that were written are noted
pub notes_so_many : (x y : Option (List ℕ)) (n : ℕ) (bytes : List ℕ) (t u : Noted) → Appends x y (take n bytes) → u ≡ writes t (take n bytes)
    → NotesWrite (nat_eq n (length bytes)) x y bytes t u
notes_so_many x y n bytes t u h e = record {
  front = take n bytes;
  back = drop n bytes;
  whole = sym (take-append-drop n bytes);
  all = λ w. let all : length bytes ≤ n = grind arith in no_rest n bytes all;
  wrote = h;
  noted = e;
}

pub notes_as : (w v : Bool) (x y : Option (List ℕ)) (bytes others : List ℕ) (t u : Noted) → w ≡ v → bytes ≡ others → NotesWrite w x y bytes t u
    → NotesWrite v x y others t u
notes_as w v x y bytes others t u f e h =
    let P : List ℕ → Type 0 = λ bs. NotesWrite v x y bs t u in
    let Q : Bool → Type 0 = λ b. NotesWrite b x y bytes t u in
    subst P e (subst Q f h)

-- if less was written than is to be, as if the rest had not been sent
turn_front : (m : ServerMark) (old new : Term) (message : Message) (front back bytes : List ℕ) (put last : Put) → bytes ≡ front ++ back → is_whole m ≡ false
    → IsTurn m old message bytes put last new → IsTurn m old message front put last new
turn_front m old new message front back bytes put last e broken t = record {
  leads = λ c at.
      let l = t.leads c at in (
        l.0,
        l.1,
        l.2,
        l.3,
        back ++ l.4,
        l.5 ∙ ap (λ (bs : List ℕ). spells (items_said c.history) ++ (bs ++ l.4)) e
            ∙ ap (λ (bs : List ℕ). spells (items_said c.history) ++ bs) (append_assoc front back l.4),
        λ w. absurd (true_false (sym w ∙ broken)),
      );
  over = t.over;
  stays = t.stays;
  idle = λ off. absurd (true_false (sym (t.idle off).1 ∙ broken));
}

-- a write failed after a message that was done wholly
turn_unwritten : (old mid new : Term) (message : Message) (front back bytes : List ℕ) (put last : Put) → bytes ≡ front ++ back → (old.progress.over ≡ true → ⊥)
    → IsTurn mark.Whole old message bytes put Nothing mid → ((c : Run) → LeadsTo c mid → LeadsTo (fail fault.Write c) new)
    → ((c : Run) → LeadsTo c mid → (fail fault.Write c).puts ≡ c.puts ++ puts_of last) → new.progress.over ≡ true
    → IsTurn mark.WriteFailed old message front put last new
turn_unwritten old mid new message front back bytes put last e on t leads puts over = record {
  leads = λ c at.
      let l = t.leads c at in (
        fail fault.Write l.0,
        (false_from_ne_true c.progress.over (λ off. on (ap (λ (p : ServerProgress). p.over) at.progress ∙ off)), l.0, l.1, refl),
        leads l.0 l.2,
        puts l.0 l.2 ∙ ap (λ (ps : List (Option Entry)). ps ++ puts_of last) (l.3 ∙ ap (λ (ps : List (Option Entry)). c.puts ++ ps) (append-nil (puts_of put)))
            ∙ append_assoc c.puts (puts_of put) (puts_of last),
        back,
        l.5 ∙ ap (λ (bs : List ℕ). spells (items_said c.history) ++ bs) (ap (λ (bs : List ℕ). bytes ++ bs) (l.6 refl) ∙ append-nil bytes ∙ e),
        λ w. absurd (false_true w),
      );
  over = λ w. over;
  stays = λ off. absurd (on off);
  idle = λ off. absurd (on off);
}

pub writes_as : (b d : Bool) (x y : Option (List ℕ)) (bytes others : List ℕ) → b ≡ d → bytes ≡ others → Writes b x y bytes → Writes d x y others
writes_as b d x y bytes others f e h =
    let P : List ℕ → Type 0 = λ bs. Writes d x y bs in
    let Q : Bool → Type 0 = λ u. Writes u x y bytes in
    subst P e (subst Q f h)

abbrev pub Puts : EntryHand → List (Option Entry) → EntryHand → Type 0
Puts v ps w = (l : List (Option Entry)) → v ≡ putter l → w ≡ putter (l ++ ps)

pub puts_two : (v u w : EntryHand) (ps qs : List (Option Entry)) → Puts v ps u → Puts u qs w → Puts v (ps ++ qs) w
puts_two v u w ps qs one two l e = two (l ++ ps) (one l e) ∙ ap putter (append_assoc l ps qs)

all_told : (written : Bool) (m : ServerMark) (a b : Option Calls) → no_write_failed m ≡ true → Tells written a b → Tells (no_write_failed m) a b
all_told written m a b well told = subst (λ (w : Bool). Tells w a b) (sym well) (accounts_well max_writes written a b told)

-- all was written, or the message was refused
pub turned_on : (written : Bool) (m : ServerMark) (old new : Term) (message : Message) (bytes : List ℕ) (writer : KnownWriting) (t u : Noted) (v w : EntryHand)
    (put last : Put) → (written || not (is_whole m)) ≡ true → no_write_failed m ≡ true → NotesWrite written writer.before.bytes writer.after.bytes bytes t u
    → Tells written writer.before.calls writer.after.calls → IsTurn m old message bytes put last new → Puts v (puts_of put ++ puts_of last) w
    → TurnsMessage old message writer t u v w new
turned_on written m old new message bytes writer t u v w put last e well h told turn p = record {
  mark = m;
  bytes = h.front;
  put = put;
  last = last;
  wrote = h.wrote;
  noted = h.noted;
  tells = all_told written m writer.before.calls writer.after.calls well told;
  turn = by written e h.all;
  puts = p;
}
  where
    by : (b : Bool) → (b || not (is_whole m)) ≡ true → (b ≡ true → h.back ≡ []) → IsTurn m old message h.front put last new
    by true f all = subst (λ (bs : List ℕ). IsTurn m old message bs put last new)
        (h.whole ∙ ap (λ (l : List ℕ). h.front ++ l) (all refl) ∙ append-nil h.front) turn
    by false f all = turn_front m old new message h.front h.back bytes put last h.whole (not-true (is_whole m) f) turn

whole_mark : (m : ServerMark) → is_whole m ≡ true → m ≡ mark.Whole
whole_mark mark.Whole e = refl
whole_mark mark.WriteFailed e = absurd (false_true e)
whole_mark (mark.Refused f put) e = absurd (false_true e)

-- a write failed
pub turned_off : (written : Bool) (m : ServerMark) (old mid new : Term) (message : Message) (bytes : List ℕ) (writer : KnownWriting) (t u : Noted)
    (v w : EntryHand)
    (put other last : Put) → (written || not (is_whole m)) ≡ false → NotesWrite written writer.before.bytes writer.after.bytes bytes t u
    → Tells written writer.before.calls writer.after.calls → (bytes ≡ [] → written ≡ true) → IsTurn m old message bytes put other mid
    → (is_whole m ≡ true → other ≡ Nothing) → ((c : Run) → LeadsTo c mid → LeadsTo (fail fault.Write c) new)
    → ((c : Run) → LeadsTo c mid → (fail fault.Write c).puts ≡ c.puts ++ puts_of last) → new.progress.over ≡ true → Puts v (puts_of put ++ puts_of last) w
    → TurnsMessage old message writer t u v w new
turned_off true m old mid new message bytes writer t u v w put other last e h told some turn unsaid leads puts over p = absurd (true_false e)
turned_off false m old mid new message bytes writer t u v w put other last e h told some turn unsaid leads puts over p =
    let is_all = not-false (is_whole m) e in
    let M : ServerMark → Type 0 = λ n. IsTurn n old message bytes put other mid in
    let L : Put → Type 0 = λ o. IsTurn mark.Whole old message bytes put o mid in
    let whole = subst L (unsaid is_all) (subst M (whole_mark m is_all) turn) in
    record {
      mark = mark.WriteFailed;
      bytes = h.front;
      put = put;
      last = last;
      wrote = h.wrote;
      noted = h.noted;
      tells = told;
      turn = turn_unwritten old mid new message h.front h.back bytes put last h.whole (λ off. false_true (some (turn.idle off).0)) whole leads puts over;
      puts = p;
    }

whole-push : (ms : List (Message × ServerMark)) (m : Message) (k : ServerMark) → all_whole (ms ++ (m, k) ∷ []) ≡ (all_whole ms && is_whole k)
whole-push [] m mark.Whole = refl
whole-push [] m mark.WriteFailed = refl
whole-push [] m (mark.Refused f put) = refl
whole-push ((n, mark.Whole) ∷ ms) m k = whole-push ms m k
whole-push ((n, mark.WriteFailed) ∷ ms) m k = refl
whole-push ((n, mark.Refused f put) ∷ ms) m k = refl

map-push : (ms : List (Message × ServerMark)) (m : Message × ServerMark) (xs : List Message) → map (λ u. u.0) ms ≡ xs → map (λ u. u.0) (ms ++ m ∷ [])
    ≡ xs ++ m.0 ∷ []
map-push [] m xs e = ap (λ (ys : List Message). ys ++ m.0 ∷ []) e
map-push (n ∷ ms) m xs e = ap (λ (ys : List Message). n.0 ∷ ys) (map-push ms m (map (λ u. u.0) ms) refl) ∙ ap (λ (ys : List Message). ys ++ m.0 ∷ []) e

-- the bytes that are left over after one more message
pub left_over : (a b : Bool) (s₀ s₁ s₂ b₁ b₂ r₁ r₂ : List ℕ) → s₁ ≡ s₀ ++ (b₁ ++ r₁) → s₂ ≡ s₁ ++ (b₂ ++ r₂) → (a ≡ true → r₁ ≡ []) → (b ≡ true → r₂ ≡ [])
    → (a ≡ false → (b₂ ≡ []) × (b ≡ true)) → (rest : List ℕ) × (s₂ ≡ s₀ ++ ((b₁ ++ b₂) ++ rest)) × ((a && b) ≡ true → rest ≡ [])
left_over true b s₀ s₁ s₂ b₁ b₂ r₁ r₂ e₁ e₂ w₁ w₂ q = (
  r₂,
  e₂ ∙ ap (λ (s : List ℕ). s ++ (b₂ ++ r₂)) (e₁ ∙ ap (λ (r : List ℕ). s₀ ++ (b₁ ++ r)) (w₁ refl) ∙ ap (λ (r : List ℕ). s₀ ++ r) (append-nil b₁))
      ∙ append_assoc s₀ b₁ (b₂ ++ r₂) ∙ ap (λ (r : List ℕ). s₀ ++ r) (sym (append_assoc b₁ b₂ r₂)),
  w₂,
)
left_over false b s₀ s₁ s₂ b₁ b₂ r₁ r₂ e₁ e₂ w₁ w₂ q =
    let n = q refl in (
      r₁,
      e₂ ∙ ap (λ (s : List ℕ). s₁ ++ s) (ap (λ (s : List ℕ). s ++ r₂) n.0 ∙ w₂ n.1) ∙ append-nil s₁ ∙ e₁
          ∙ ap (λ (s : List ℕ). s₀ ++ (s ++ r₁)) (sym (append-nil b₁)) ∙ ap (λ (s : List ℕ). s₀ ++ ((b₁ ++ s) ++ r₁)) (sym n.0),
      λ e. absurd (false_true e),
    )

well-push : (ms : List (Message × ServerMark)) (m : Message) (k : ServerMark) → no_writes_failed (ms ++ (m, k) ∷ [])
    ≡ (no_writes_failed ms && no_write_failed k)
well-push [] m mark.Whole = refl
well-push [] m mark.WriteFailed = refl
well-push [] m (mark.Refused f put) = refl
well-push ((n, mark.Whole) ∷ ms) m k = well-push ms m k
well-push ((n, mark.WriteFailed) ∷ ms) m k = refl
well-push ((n, mark.Refused f put) ∷ ms) m k = well-push ms m k

and_false : (a b : Bool) → (a && b) ≡ false → (a ≡ false) ⊎ (b ≡ false)
and_false true b e = inr e
and_false false b e = inl refl

-- a writer from before to after
abbrev pub from_to : KnownWriter → KnownWriter → KnownWriting
from_to x y = record { before = x; after = y }

-- the terminal's state after one message more: the message, its mark, and the bytes that were written after
-- it
abbrev pub MovesOn : {a d : Term} {ms ns : List Message} {w w₁ : KnownWriting} {puts later : List (Option Entry)} {b : Term} → GoesOn a ms w puts b
    → GoesOn a ns w₁ later d → Message × ServerMark → List ℕ → Type 0
MovesOn one next m bytes = (next.marked ≡ one.marked ++ m ∷ []) × (next.steps ≡ one.steps ++ (m, bytes) ∷ [])

pub going_on : (a b d : Term) (ms : List Message) (m : Message) (x y z : KnownWriter) (puts : List (Option Entry)) (n o : Noted) (v w : EntryHand)
    → (one : GoesOn a ms (from_to x y) puts b) → (t : TurnsMessage b m (from_to y z) n o v w d)
    → (next : GoesOn a (ms ++ m ∷ []) (from_to x z) (puts ++ (puts_of t.put ++ puts_of t.last)) d) × MovesOn one next (m, t.mark) t.bytes
going_on a b d ms m x y z puts n o v w one t = (
  record {
    marked = one.marked ++ (m, t.mark) ∷ [];
    whole = map-push one.marked (m, t.mark) ms one.whole;
    steps = one.steps ++ ((m, t.mark), t.bytes) ∷ [];
    of_steps = map-append (λ (s : (Message × ServerMark) × List ℕ). s.0) one.steps (((m, t.mark), t.bytes) ∷ [])
        ∙ ap (λ (l : List (Message × ServerMark)). l ++ (m, t.mark) ∷ []) one.of_steps;
    bytes = one.bytes ++ t.bytes;
    all_bytes = ap (λ (l : List ℕ). l ++ t.bytes) one.all_bytes ∙ sym (total-push one.steps ((m, t.mark), t.bytes));
    wrote = appends_more x.bytes y.bytes z.bytes one.bytes t.bytes one.wrote t.wrote;
    tells = subst (λ (well : Bool). Tells well x.calls z.calls) (sym (well-push one.marked m t.mark))
        (accounts_both max_writes (no_writes_failed one.marked) (no_write_failed t.mark) x.calls y.calls z.calls one.tells t.tells);
    leads = λ c at.
        let p = one.leads c at in
        let q = t.turn.leads p.0 p.2 in
        let rest = left_over (all_whole one.marked) (is_whole t.mark) (spells (items_said c.history)) (spells (items_said p.0.history))
        (spells (items_said q.0.history)) one.bytes t.bytes p.4 q.4 p.5 q.5 p.6 q.6 (λ e. t.turn.idle (one.over e)) in (
          q.0,
          FoldsTo-push Turns c one.marked p.0 (m, t.mark) q.0 p.1 q.1,
          q.2,
          q.3 ∙ ap (λ (ps : List (Option Entry)). ps ++ (puts_of t.put ++ puts_of t.last)) p.3 ∙ append_assoc c.puts puts (puts_of t.put ++ puts_of t.last),
          rest.0,
          rest.1,
          λ e. rest.2 (sym (whole-push one.marked m t.mark) ∙ e),
          FoldsTo-push (IsStep Turns says is_over is_marked_whole) c one.steps p.0 ((m, t.mark), t.bytes) q.0 p.7 (record {
            turn = q.1;
            rest = q.4;
            said = q.5;
            all = q.6;
            over = λ e. sym (ap (λ (r : ServerProgress). r.over) q.2.progress) ∙ t.turn.over e;
            stays = λ off. sym (ap (λ (r : ServerProgress). r.over) q.2.progress) ∙ t.turn.stays (ap (λ (r : ServerProgress). r.over) p.2.progress ∙ off);
            idle = λ off. (t.turn.idle (ap (λ (r : ServerProgress). r.over) p.2.progress ∙ off)).0;
          }),
        );
    over = λ e. ⊎_elim (λ f. t.turn.stays (one.over f)) (λ f. t.turn.over f)
        (and_false (all_whole one.marked) (is_whole t.mark) (sym (whole-push one.marked m t.mark) ∙ e));
    stays = λ off. t.turn.stays (one.stays off);
    idle = λ off. ap (λ (bs : List ℕ). bs ++ t.bytes) (one.idle off) ∙ (t.turn.idle (one.stays off)).0;
  },
  (refl, refl),
)

pub going_none : (a : Term) (x : KnownWriter) → GoesOn a [] (from_to x x) [] a
going_none a x = record {
  marked = [];
  whole = refl;
  steps = [];
  of_steps = refl;
  bytes = [];
  all_bytes = refl;
  wrote = appends_none x.bytes;
  tells = accounts_none max_writes x.calls;
  leads = λ c at. (c, refl, at, sym (append-nil c.puts), [], sym (append-nil (spells (items_said c.history))), λ w. refl, refl);
  over = λ e. absurd (true_false e);
  stays = λ off. off;
  idle = λ off. refl;
}

pub going_kept : (a b : Term) (ms : List Message) (x y z : KnownWriter) (puts : List (Option Entry)) → Keeps y.bytes z.bytes → z.calls ≡ y.calls
    → (g : GoesOn a ms (from_to x y) puts b) → (same : GoesOn a ms (from_to x z) puts b) × (same.marked ≡ g.marked) × (same.steps ≡ g.steps)
going_kept a b ms x y z puts k told g = (
  record {
    marked = g.marked;
    whole = g.whole;
    steps = g.steps;
    of_steps = g.of_steps;
    bytes = g.bytes;
    all_bytes = g.all_bytes;
    wrote = appends_kept x.bytes y.bytes z.bytes g.bytes g.wrote k;
    tells = subst (λ (v : Option Calls). Tells (no_writes_failed g.marked) x.calls v) (sym told) g.tells;
    leads = g.leads;
    over = g.over;
    stays = g.stays;
    idle = g.idle;
  },
  refl,
  refl,
)

pub lefts_of-push : (xs : List Mail) (x : Mail) → lefts_of (xs ++ x ∷ []) ≡ lefts_of xs + left_one x.message
lefts_of-push [] x = omega arith
lefts_of-push (y ∷ ys) x = let ih = lefts_of-push ys x in omega arith

pub left_small : (m : Message) → left_one m ≤ 1
left_small Left = omega arith
left_small _ = omega arith

messages-push : (xs : List Mail) (x : Mail) → messages_of (xs ++ x ∷ []) ≡ messages_of xs ++ x.message ∷ []
messages-push [] x = refl
messages-push (y ∷ ys) x = ap (λ (ms : List Message). y.message ∷ ms) (messages-push ys x)

pub going_next : (a b d : Term) (xs : List Mail) (x : Mail) (u y w z : KnownWriter) (puts : List (Option Entry)) (n o : Noted) (v h : EntryHand)
    → Keeps w.bytes z.bytes → z.calls ≡ w.calls → (one : GoesOn a (messages_of xs) (from_to u y) puts b)
    → (t : TurnsMessage b x.message (from_to y w) n o v h d) → (next : GoesOn a (messages_of (xs ++ x ∷ [])) (from_to u z)
    (puts ++ (puts_of t.put ++ puts_of t.last)) d) × MovesOn one next (x.message, t.mark) t.bytes
going_next a b d xs x u y w z puts n o v h k told one t =
    let more = puts ++ (puts_of t.put ++ puts_of t.last) in
    let P : List Message → Type 0 = λ ms. (next : GoesOn a ms (from_to u z) more d) × MovesOn one next (x.message, t.mark) t.bytes in
    let on = going_on a b d (messages_of xs) x.message u y w puts n o v h one t in
    let kept = going_kept a d _ u w z more k told on.0 in
    subst P (sym (messages-push xs x)) (kept.0, (kept.1 ∙ on.1.0, kept.2 ∙ on.1.1))

-- the terminal's state before the first mail
pub going_first : (a : Term) (x y : KnownWriter) (t : Noted) → Keeps x.bytes y.bytes → y.calls ≡ x.calls → (goes : GoesOn a [] (from_to x y) [] a)
    × NotesAll [] (map (λ s. s.1) goes.steps) t t
unfolding going_kept going_none
going_first a x y t k told = (
  (going_kept a a [] x x y [] k told (going_none a x)).0,
  record { more = []; noted = sym (append-nil (notes t)); took = refl; wrote = refl },
)

-- the notes, after one message more
pub notes_more : (xs : List Mail) (x : Mail) (ws : List (List ℕ)) (bytes : List ℕ) (t u v w : Noted) → NotesAll xs ws t u → v ≡ takes u x → w ≡ writes v bytes
    → NotesAll (xs ++ x ∷ []) (ws ++ bytes ∷ []) t w
notes_more xs x ws bytes t u v w one took wrote =
    let note : Note = record { took = Some x; wrote = bytes } in
    record {
      more = one.more ++ note ∷ [];
      noted = ap notes (wrote ∙ ap (λ (n : Noted). writes n bytes) took) ∙ ap (λ (l : List Note). l ++ note ∷ []) one.noted
          ∙ append_assoc (notes t) one.more (note ∷ []);
      took = map-append (λ (n : Note). n.took) one.more (note ∷ []) ∙ ap (λ (l : List (Option Mail)). l ++ Some x ∷ []) one.took
          ∙ sym (map-append (λ (y : Mail). Some y) xs (x ∷ []));
      wrote = map-append (λ (n : Note). n.wrote) one.more (note ∷ []) ∙ ap (λ (l : List (List ℕ)). l ++ bytes ∷ []) one.wrote;
    }

-- the notes of what goes on
pub notes_next : {S : Type 0} (xs : List Mail) (x : Mail) (steps next : List (S × List ℕ)) (m : S) (bytes : List ℕ) (t u v w : Noted)
    → NotesAll xs (map (λ s. s.1) steps) t u → next ≡ steps ++ (m, bytes) ∷ [] → v ≡ takes u x → w ≡ writes v bytes
    → NotesAll (xs ++ x ∷ []) (map (λ s. s.1) next) t w
notes_next {S} xs x steps next m bytes t u v w one is took wrote =
    let P : List (List ℕ) → Type 0 = λ ws. NotesAll (xs ++ x ∷ []) ws t w in
    subst P (sym (ap (map (λ (s : S × List ℕ). s.1)) is ∙ map-append (λ (s : S × List ℕ). s.1) steps ((m, bytes) ∷ [])))
    (notes_more xs x (map (λ (s : S × List ℕ). s.1) steps) bytes t u v w one took wrote)

pub notes_kept : {S : Type 0} (xs : List Mail) (steps same : List (S × List ℕ)) (t u : Noted) → same ≡ steps → NotesAll xs (map (λ s. s.1) steps) t u
    → NotesAll xs (map (λ s. s.1) same) t u
notes_kept {S} xs steps same t u is one = subst (λ (l : List (S × List ℕ)). NotesAll xs (map (λ s. s.1) l) t u) (sym is) one

-- whether Back was asked to stop, after one more message
pub term_told : (a b d : Term) (xs : List Mail) (x : Mail) (w w₁ w₂ : KnownWriting) (puts later : List (Option Entry)) (r o : Noted) (v h : EntryHand)
    (told due now gone : Bool) (one : GoesOn a (messages_of xs) w puts b) (t : TurnsMessage b x.message w₁ r o v h d)
    (next : GoesOn a (messages_of (xs ++ x ∷ [])) w₂ later d) → next.marked ≡ one.marked ++ (x.message, t.mark) ∷ [] → gone ≡ has_left Back (xs ++ x ∷ [])
    → due ≡ (term_stops d.progress && not gone) → now ≡ (told || due)
    → ((c : Run) → LeadsTo c a → StandsTold Back messages_of (Runs c) (λ r. term_stops r.progress) xs one.marked (term_stops b.progress) told)
    → (c : Run) → LeadsTo c a → StandsTold Back messages_of (Runs c) (λ r. term_stops r.progress) (xs ++ x ∷ []) next.marked (term_stops d.progress) now
term_told a b d xs x w w₁ w₂ puts later r o v h told due now gone one t next marks left is_due tells stands c at =
    let p = one.leads c at in
    let q = t.turn.leads p.0 p.2 in
    let B : Bool → Type 0 = λ n. StandsTold Back messages_of (Runs c) (λ r. term_stops r.progress) xs one.marked n told in
    let before = subst B (ap term_stops p.2.progress) (stands c at) in
    let due_now : due ≡ (term_stops q.0.progress && not (has_left Back (xs ++ x ∷ []))) =
    is_due ∙ ap (λ (n : ServerProgress). term_stops n && not gone) q.2.progress ∙ ap (λ (n : Bool). term_stops q.0.progress && not n) left in
    let after = stands_more Back messages_of (Runs c) (λ r. term_stops r.progress) xs x one.marked (x.message, t.mark) p.0 q.0 told due now before one.whole p.1
    (term_stays p.0 q.0 x.message t.mark q.1) due_now tells in
    let M : List (Message × ServerMark) → Type 0 = λ ms. StandsTold Back messages_of (Runs c) (λ r. term_stops r.progress) (xs ++ x ∷ []) ms
    (term_stops q.0.progress) now in
    let N : Bool → Type 0 = λ n. StandsTold Back messages_of (Runs c) (λ r. term_stops r.progress) (xs ++ x ∷ []) next.marked n now in
    subst N (sym (ap term_stops q.2.progress)) (subst M (sym marks) after)

pub never_true : {A : Type 0} → true ≡ false → A
never_true e = absurd (true_false e)
