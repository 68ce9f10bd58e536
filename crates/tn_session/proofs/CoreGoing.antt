-- The bytes that the core's thread wrote and showed, one message after another.
use Rattle.std.proofs.Common.{◌≡◌, ℕ, Bool, true, false, not, ◌||◌, ◌&&◌, ◌⊎◌, ⊎_elim, inl, inr, List, [], ◌∷◌, ◌++◌, map, Option, refl, sym, ap, ◌∙◌, subst}
use Rattle.std.proofs.{Common.{append_assoc, append-nil}, lemmas.{Bool.false_from_ne_true, Fn.FoldsTo-push, List.map-append}}
use Rattle.std.specs.Io.KnownBytes.{Appends, Keeps}
use Rattle.tn_client.specs.{Replies.items_said, Screen.text_shown}
use Rattle.tn_cores.specs.client.{Marks.{Runs, Turns, no_write_failed, no_show_failed, is_written, is_whole, all_by, all_written, all_whole}, Run.{Run, fail}}
use Rattle.tn_cores.specs.{client.Reaching.{LeadsTo, IsTurn, SendsPrefix, ShowsPrefix}, declared.client.{machine.Core.Core, messages.ClientMark.ClientMark}}
use Rattle.tn_cores.specs.{declared.client.{messages.Told.Told, progress.ClientProgress.ClientProgress}, streams.Writing.{Writes, Tells, max_writes}}
use Rattle.tn_cores.specs.streams.{Known.{KnownWriter, KnownWriting}, Telling.Calls}
use Rattle.tn_cores.specs.declared.client.messages.ClientMark.TheVariants as mark
use Rattle.tn_nvt.specs.Spelling.{spells}
use Rattle.tn_session.proofs.{Going.{true_false, false_true, from_to, left_over}, lemmas.Noting.total-push, Stopped.stands_more, Stopping.core_stays}
use Rattle.tn_session.specs.{CoreTurns.{TurnsTold, ToldAll, told_of, all_told, says, is_over, is_marked_written}, Notes.{Noted, NotesWrite, NotesAll, no_notes}}
use Rattle.tn_session.specs.{Stops.{StandsTold, core_stops, has_left}, Transcripts.IsStep, declared.workers.mail.{Mail.Mail, Sender.TheVariants.Keys}}
use Rattle.tn_cores.proofs.lemmas.streams.{Writing.{appends_more, appends_kept, appends_none, kept_appends}, Telling.{accounts_none, accounts_well, accounts_both}}
use Rattle.tn_cores.specs.declared.faults.SessionFault.TheVariants as fault

-- a front was shown, and all if no write failed
record Written (b : Bool) (x y : Option (List ℕ)) (bytes : List ℕ) : Type 0 where
  front : List ℕ
  back : List ℕ
  whole : bytes ≡ front ++ back
  wrote : Appends x y front
  all : b ≡ true → back ≡ []

written : (b : Bool) (x y : Option (List ℕ)) (bytes : List ℕ) → Writes b x y bytes → Written b x y bytes
written true x y bytes h = record { front = bytes; back = []; whole = sym (append-nil bytes); wrote = h; all = λ e. refl }
written false x y bytes h = record { front = h.0; back = h.1; whole = h.2; wrote = h.3; all = λ e. absurd (false_true e) }

none_front : (bytes front back : List ℕ) → bytes ≡ front ++ back → bytes ≡ [] → front ≡ []
none_front bytes [] back e none = refl
none_front bytes (b ∷ bs) back e none = absurd (some b (bs ++ back) (sym e ∙ none))
  where
    some : (x : ℕ) (xs : List ℕ) → x ∷ xs ≡ [] → ⊥
    some x xs f = cc

-- if less was written than is to be, as if the rest had been left over
rest_less : (all less : Bool) (s₀ s₁ bytes front back rest : List ℕ) → bytes ≡ front ++ back → (less ≡ true → all ≡ true) → (less ≡ true → back ≡ [])
    → s₁ ≡ s₀ ++ (bytes ++ rest) → (all ≡ true → rest ≡ []) → (more : List ℕ) × (s₁ ≡ s₀ ++ (front ++ more)) × (less ≡ true → more ≡ [])
rest_less all less s₀ s₁ bytes front back rest e weaker none is whole = (
  back ++ rest,
  is ∙ ap (λ (bs : List ℕ). s₀ ++ (bs ++ rest)) e ∙ ap (λ (bs : List ℕ). s₀ ++ bs) (append_assoc front back rest),
  λ w. ap (λ (bs : List ℕ). bs ++ rest) (none w) ∙ whole (weaker w),
)

sends_less : (c next : Run) (all less : Bool) (bytes front back : List ℕ) → bytes ≡ front ++ back → (less ≡ true → all ≡ true) → (less ≡ true → back ≡ [])
    → SendsPrefix c next bytes all → SendsPrefix c next front less
sends_less c next all less bytes front back e weaker none s = rest_less all less (spells (items_said c.sent))
    (spells (items_said next.sent)) bytes front back s.0 e weaker none s.1 s.2

shows_less : (c next : Run) (all less : Bool) (text front back : List ℕ) → text ≡ front ++ back → (less ≡ true → all ≡ true) → (less ≡ true → back ≡ [])
    → ShowsPrefix c next text all → ShowsPrefix c next front less
shows_less c next all less text front back e weaker none s = rest_less all less (text_shown c.history)
    (text_shown next.history) text front back s.0 e weaker none s.1 s.2

-- a message that is written and not shown was written, and its showing failed
is_shown : (m : ClientMark) → no_show_failed m ≡ true → is_written m ≡ true → is_whole m ≡ true
is_shown mark.Whole e f = refl
is_shown mark.WriteFailed e f = absurd (false_true f)
is_shown mark.ShowFailed e f = absurd (false_true e)
is_shown (mark.Refused g) e f = absurd (false_true f)

goes_well : (w well : Bool) (a b : Option Calls) → well ≡ true → Tells w a b → Tells well a b
goes_well w well a b is told = subst (λ (v : Bool). Tells v a b) (sym is) (accounts_well max_writes w a b told)

-- all was written and shown, or the message was refused
turn_on : (w s : Bool) (m : ClientMark) (old new : Core) (told : Told) (bytes text : List ℕ) (writer screen : KnownWriting) (n o : Noted)
    → ((w && s) || not (is_whole m)) ≡ true → no_write_failed m ≡ true → no_show_failed m ≡ true → NotesWrite w writer.before.bytes writer.after.bytes bytes n o
    → Tells w writer.before.calls writer.after.calls → Written s screen.before.bytes screen.after.bytes text → Tells s screen.before.calls screen.after.calls
    → IsTurn m old told bytes text new → TurnsTold old told writer screen n o new
turn_on w s m old new told bytes text writer screen n o e well clear a tells b shows t = record {
  mark = m;
  bytes = a.front;
  text = b.front;
  wrote = a.wrote;
  showed = b.wrote;
  noted = a.noted;
  tells = goes_well w (no_write_failed m) writer.before.calls writer.after.calls well tells;
  tells_shown = goes_well s (no_show_failed m) screen.before.calls screen.after.calls clear shows;
  turn = record {
    leads = λ c at.
        let n = t.leads c at in (
          n.0,
          n.1,
          n.2,
          sends_less c n.0 (is_written m) (is_written m) bytes a.front a.back a.whole (λ f. f) (λ f. a.all (both (is_shown m clear f)).0) n.3,
          shows_less c n.0 (is_whole m) (is_whole m) text b.front b.back b.whole (λ f. f) (λ f. b.all (both f).1) n.4,
        );
    over = t.over;
    stays = t.stays;
    idle = λ off. let n = t.idle off in (none_front bytes a.front a.back a.whole n.0, none_front text b.front b.back b.whole n.1, n.2);
  };
}
  where
    by_test : (w s k : Bool) → ((w && s) || not k) ≡ true → k ≡ true → (w ≡ true) × (s ≡ true)
    by_test true true k f g = (refl, refl)
    by_test true false true f g = absurd (false_true f)
    by_test true false false f g = absurd (false_true g)
    by_test false s true f g = absurd (false_true f)
    by_test false s false f g = absurd (false_true g)

    both : is_whole m ≡ true → (w ≡ true) × (s ≡ true)
    both f = by_test w s (is_whole m) e f

whole_mark : (m : ClientMark) → is_whole m ≡ true → m ≡ mark.Whole
whole_mark mark.Whole e = refl
whole_mark mark.WriteFailed e = absurd (false_true e)
whole_mark mark.ShowFailed e = absurd (false_true e)
whole_mark (mark.Refused f) e = absurd (false_true e)

-- which write failed
abbrev failed_mark : Bool → ClientMark
failed_mark true = mark.ShowFailed
failed_mark false = mark.WriteFailed

fails_at : (w : Bool) (c whole : Run) (told : Told) → Turns c (told, mark.WriteFailed) (fail fault.Write whole)
    → Turns c (told, failed_mark w) (fail fault.Write whole)
fails_at true c whole told t = t
fails_at false c whole told t = t

is_written_by : (w : Bool) → is_written (failed_mark w) ≡ w
is_written_by true = refl
is_written_by false = refl

never_whole : (w : Bool) → is_whole (failed_mark w) ≡ true → ⊥
never_whole true e = false_true e
never_whole false e = false_true e

-- a write to the screen is reported if the network took all
shows_failed : (w s : Bool) (i j : Option Calls) → (w && s) ≡ false → Tells s i j → Tells (no_show_failed (failed_mark w)) i j
shows_failed true s i j e told = subst (λ (v : Bool). Tells v i j) e told
shows_failed false s i j e told = accounts_well max_writes s i j told

writes_failed : (w : Bool) (k l : Option Calls) → Tells w k l → Tells (no_write_failed (failed_mark w)) k l
writes_failed true k l told = told
writes_failed false k l told = told

-- a write failed after a message that was done wholly
turn_off : (w s : Bool) (old mid new : Core) (told : Told) (bytes text : List ℕ) (writer screen : KnownWriting) (n o : Noted) → (old.progress.over ≡ true → ⊥)
    → (w && s) ≡ false → NotesWrite w writer.before.bytes writer.after.bytes bytes n o → Tells w writer.before.calls writer.after.calls
    → Written s screen.before.bytes screen.after.bytes text → Tells s screen.before.calls screen.after.calls → IsTurn mark.Whole old told bytes text mid
    → ((c : Run) → LeadsTo c mid → LeadsTo (fail fault.Write c) new) → new.progress.over ≡ true → TurnsTold old told writer screen n o new
turn_off w s old mid new told bytes text writer screen n o on broken a tells b shows t leads over = record {
  mark = failed_mark w;
  bytes = a.front;
  text = b.front;
  wrote = a.wrote;
  showed = b.wrote;
  noted = a.noted;
  tells = writes_failed w writer.before.calls writer.after.calls tells;
  tells_shown = shows_failed w s screen.before.calls screen.after.calls broken shows;
  turn = record {
    leads = λ c at.
        let n = t.leads c at in
        let next = fail fault.Write n.0 in (
          next,
          fails_at w c n.0 told (false_from_ne_true c.progress.over (λ off. on (ap (λ (p : ClientProgress). p.over) at.progress ∙ off)), n.0, n.1, refl),
          leads n.0 n.2,
          sends_less c next true (is_written (failed_mark w)) bytes a.front a.back a.whole (λ f. refl) (λ f. a.all (sym (is_written_by w) ∙ f)) n.3,
          shows_less c next true (is_whole (failed_mark w)) text b.front b.back b.whole (λ f. refl) (λ f. absurd (never_whole w f)) n.4,
        );
    over = λ f. over;
    stays = λ off. absurd (on off);
    idle = λ off. absurd (on off);
  };
}

pub turned_on : (w s : Bool) (m : ClientMark) (old new : Core) (told : Told) (bytes text : List ℕ) (writer screen : KnownWriting) (n o : Noted)
    → ((w && s) || not (is_whole m)) ≡ true → no_write_failed m ≡ true → no_show_failed m ≡ true → NotesWrite w writer.before.bytes writer.after.bytes bytes n o
    → Tells w writer.before.calls writer.after.calls → Writes s screen.before.bytes screen.after.bytes text → Tells s screen.before.calls screen.after.calls
    → IsTurn m old told bytes text new → TurnsTold old told writer screen n o new
turned_on w s m old new told bytes text writer screen n o e well clear a tells b shows t =
    turn_on w s m old new told bytes text writer screen n o e well clear a tells (written s screen.before.bytes screen.after.bytes text b) shows t

pub turned_off : (w s : Bool) (m : ClientMark) (old mid new : Core) (told : Told) (bytes text : List ℕ) (writer screen : KnownWriting) (n o : Noted)
    → ((w && s) || not (is_whole m)) ≡ false → NotesWrite w writer.before.bytes writer.after.bytes bytes n o → Tells w writer.before.calls writer.after.calls
    → Writes s screen.before.bytes screen.after.bytes text → Tells s screen.before.calls screen.after.calls → (bytes ≡ [] → w ≡ true) → (text ≡ [] → s ≡ true)
    → IsTurn m old told bytes text mid → ((c : Run) → LeadsTo c mid → LeadsTo (fail fault.Write c) new) → new.progress.over ≡ true
    → TurnsTold old told writer screen n o new
turned_off w s m old mid new told bytes text writer screen n o e a tells b shows some_bytes some_text t leads over =
    let broken = by_test w s (is_whole m) e in
    let M : ClientMark → Type 0 = λ n. IsTurn n old told bytes text mid in
    let on : old.progress.over ≡ true → ⊥ = λ off. let n = t.idle off in true_false (sym (both w s (some_bytes n.0) (some_text n.1)) ∙ broken.1) in
    turn_off w s old mid new told bytes text writer screen n o on broken.1 a tells (written s screen.before.bytes screen.after.bytes text b) shows
    (subst M (whole_mark m broken.0) t) leads over
  where
    by_test : (w s k : Bool) → ((w && s) || not k) ≡ false → (k ≡ true) × ((w && s) ≡ false)
    by_test true true k f = absurd (true_false f)
    by_test true false true f = (refl, refl)
    by_test true false false f = absurd (true_false f)
    by_test false s true f = (refl, refl)
    by_test false s false f = absurd (true_false f)

    both : (w s : Bool) → w ≡ true → s ≡ true → (w && s) ≡ true
    both true s e f = f
    both false s e f = e

-- LISTS
and-nil : (b : Bool) → (b && true) ≡ b
and-nil true = refl
and-nil false = refl

by-push : (is : ClientMark → Bool) (ms : List (Told × ClientMark)) (m : Told) (k : ClientMark) → all_by is (ms ++ (m, k) ∷ []) ≡ (all_by is ms && is k)
by-push is [] m k = and-nil (is k)
by-push is ((n, j) ∷ ms) m k = ap (λ (b : Bool). is j && b) (by-push is ms m k) ∙ assoc (is j) (all_by is ms) (is k)
  where
    assoc : (a b c : Bool) → (a && (b && c)) ≡ ((a && b) && c)
    assoc true b c = refl
    assoc false b c = refl

pub unwritten : (ms : List (Told × ClientMark)) → all_written ms ≡ false → all_whole ms ≡ false
unwritten [] e = e
unwritten ((n, mark.Whole) ∷ ms) e = unwritten ms e
unwritten ((n, mark.WriteFailed) ∷ ms) e = refl
unwritten ((n, mark.ShowFailed) ∷ ms) e = refl
unwritten ((n, mark.Refused f) ∷ ms) e = refl

and_false : (a b : Bool) → (a && b) ≡ false → (a ≡ false) ⊎ (b ≡ false)
and_false true b e = inr e
and_false false b e = inl refl

whole_written : (m : ClientMark) → is_whole m ≡ true → is_written m ≡ true
whole_written mark.Whole e = refl
whole_written mark.WriteFailed e = e
whole_written mark.ShowFailed e = refl
whole_written (mark.Refused f) e = e

-- the core's state after one message more: the message, its mark, and the bytes that were written after it
abbrev pub MovesOn : {a b d : Core} {ms ns : List Told} {w s w₁ s₁ : KnownWriting} → ToldAll a ms w s b → ToldAll a ns w₁ s₁ d → Told × ClientMark → List ℕ →
    Type 0
MovesOn one next m bytes = (next.marked ≡ one.marked ++ m ∷ []) × (next.steps ≡ one.steps ++ (m, bytes) ∷ [])

unwritten_one : (m : ClientMark) → is_written m ≡ false → is_whole m ≡ false
unwritten_one mark.Whole e = e
unwritten_one mark.WriteFailed e = refl
unwritten_one mark.ShowFailed e = refl
unwritten_one (mark.Refused f) e = refl

going_on : (a b d : Core) (ms : List Told) (m : Told) (x y z u v w : KnownWriter) (n o : Noted) → (one : ToldAll a ms (from_to x y) (from_to u v) b)
    → (t : TurnsTold b m (from_to y z) (from_to v w) n o d) → (next : ToldAll a (ms ++ m ∷ []) (from_to x z) (from_to u w) d)
    × MovesOn one next (m, t.mark) t.bytes
going_on a b d ms m x y z u v w n o one t =
    let marked : List (Told × ClientMark) = one.marked ++ (m, t.mark) ∷ [] in
    let written-push : all_written marked ≡ (all_written one.marked && is_written t.mark) = by-push is_written one.marked m t.mark in
    let whole-push : all_whole marked ≡ (all_whole one.marked && is_whole t.mark) = by-push is_whole one.marked m t.mark in (
      record {
        marked = marked;
        whole = map-append (λ (k : Told × ClientMark). k.0) one.marked ((m, t.mark) ∷ []) ∙ ap (λ (ks : List Told). ks ++ m ∷ []) one.whole;
        steps = one.steps ++ ((m, t.mark), t.bytes) ∷ [];
        of_steps = map-append (λ (k : (Told × ClientMark) × List ℕ). k.0) one.steps (((m, t.mark), t.bytes) ∷ [])
            ∙ ap (λ (ks : List (Told × ClientMark)). ks ++ (m, t.mark) ∷ []) one.of_steps;
        bytes = one.bytes ++ t.bytes;
        all_bytes = ap (λ (l : List ℕ). l ++ t.bytes) one.all_bytes ∙ sym (total-push one.steps ((m, t.mark), t.bytes));
        text = one.text ++ t.text;
        wrote = appends_more x.bytes y.bytes z.bytes one.bytes t.bytes one.wrote t.wrote;
        showed = appends_more u.bytes v.bytes w.bytes one.text t.text one.showed t.showed;
        tells = subst (λ (well : Bool). Tells well x.calls z.calls) (sym (by-push no_write_failed one.marked m t.mark))
            (accounts_both max_writes (all_by no_write_failed one.marked) (no_write_failed t.mark) x.calls y.calls z.calls one.tells t.tells);
        tells_shown = subst (λ (well : Bool). Tells well u.calls w.calls) (sym (by-push no_show_failed one.marked m t.mark))
            (accounts_both max_writes (all_by no_show_failed one.marked) (no_show_failed t.mark) u.calls v.calls w.calls one.tells_shown t.tells_shown);
        leads = λ c at.
            let p = one.leads c at in
            let q = t.turn.leads p.0 p.2 in
            let sent = left_over (all_written one.marked) (is_written t.mark) (spells (items_said c.sent)) (spells (items_said p.0.sent))
            (spells (items_said q.0.sent)) one.bytes t.bytes p.3.0 q.3.0 p.3.1 q.3.1 p.3.2 q.3.2
            (λ k. let n = t.turn.idle (one.over (unwritten one.marked k)) in (n.0, whole_written t.mark n.2)) in
            let shown = left_over (all_whole one.marked) (is_whole t.mark) (text_shown c.history) (text_shown p.0.history)
            (text_shown q.0.history) one.text t.text p.4.0 q.4.0 p.4.1 q.4.1 p.4.2 q.4.2 (λ k. let n = t.turn.idle (one.over k) in (n.1, n.2)) in (
              q.0,
              FoldsTo-push Turns c one.marked p.0 (m, t.mark) q.0 p.1 q.1,
              q.2,
              (sent.0, sent.1, λ k. sent.2 (sym written-push ∙ k)),
              (shown.0, shown.1, λ k. shown.2 (sym whole-push ∙ k)),
              FoldsTo-push (IsStep Turns says is_over is_marked_written) c one.steps p.0 ((m, t.mark), t.bytes) q.0 p.5 (record {
                turn = q.1;
                rest = q.3.0;
                said = q.3.1;
                all = q.3.2;
                over = λ k. sym (ap (λ (r : ClientProgress). r.over) q.2.progress) ∙ t.turn.over (unwritten_one t.mark k);
                stays = λ off. sym (ap (λ (r : ClientProgress). r.over) q.2.progress) ∙ t.turn.stays (ap (λ (r : ClientProgress). r.over) p.2.progress ∙ off);
                idle = λ off. (t.turn.idle (ap (λ (r : ClientProgress). r.over) p.2.progress ∙ off)).0;
              }),
            );
        over = λ k. ⊎_elim (λ n. t.turn.stays (one.over n)) (λ n. t.turn.over n) (and_false (all_whole one.marked) (is_whole t.mark) (sym whole-push ∙ k));
        stays = λ off. t.turn.stays (one.stays off);
      },
      (refl, refl),
    )

pub told_none : (a : Core) (x u : KnownWriter) → ToldAll a [] (from_to x x) (from_to u u) a
told_none a x u = record {
  marked = [];
  whole = refl;
  steps = [];
  of_steps = refl;
  bytes = [];
  all_bytes = refl;
  text = [];
  wrote = appends_none x.bytes;
  showed = appends_none u.bytes;
  tells = accounts_none max_writes x.calls;
  tells_shown = accounts_none max_writes u.calls;
  leads = λ c at. (
    c,
    refl,
    at,
    ([], sym (append-nil (spells (items_said c.sent))), λ e. refl),
    ([], sym (append-nil (text_shown c.history)), λ e. refl),
    refl,
  );
  over = λ e. absurd (true_false e);
  stays = λ off. off;
}

pub told_kept : (a b : Core) (ms : List Told) (x y z u v : KnownWriter) → Keeps y.bytes z.bytes → z.calls ≡ y.calls
    → (g : ToldAll a ms (from_to x y) (from_to u v) b) → (same : ToldAll a ms (from_to x z) (from_to u v) b) × (same.marked ≡ g.marked) × (same.steps ≡ g.steps)
told_kept a b ms x y z u v k same g = (
  record {
    marked = g.marked;
    whole = g.whole;
    steps = g.steps;
    of_steps = g.of_steps;
    bytes = g.bytes;
    all_bytes = g.all_bytes;
    text = g.text;
    wrote = appends_kept x.bytes y.bytes z.bytes g.bytes g.wrote k;
    showed = g.showed;
    tells = subst (λ (c : Option Calls). Tells (all_by no_write_failed g.marked) x.calls c) (sym same) g.tells;
    tells_shown = g.tells_shown;
    leads = g.leads;
    over = g.over;
    stays = g.stays;
  },
  refl,
  refl,
)

-- a turn before which the screen passed on what it held back
pub turned_kept : (a b : Core) (m : Told) (w : KnownWriting) (u v s : KnownWriter) (n o : Noted) → Keeps u.bytes v.bytes → v.calls ≡ u.calls
    → TurnsTold a m w (from_to v s) n o b → TurnsTold a m w (from_to u s) n o b
turned_kept a b m w u v s n o keeps same t = record {
  mark = t.mark;
  bytes = t.bytes;
  text = t.text;
  wrote = t.wrote;
  showed = appends_more u.bytes v.bytes s.bytes [] t.text (kept_appends u.bytes v.bytes keeps) t.showed;
  noted = t.noted;
  tells = t.tells;
  tells_shown = subst (λ (c : Option Calls). Tells (no_show_failed t.mark) c s.calls) same t.tells_shown;
  turn = t.turn;
}

-- the core's state before the first mail
pub told_first : (a : Core) (x u : KnownWriter) → (goes : ToldAll a [] (from_to x x) (from_to u u) a)
    × NotesAll [] (map (λ s. s.1) goes.steps) no_notes no_notes
unfolding told_none
told_first a x u = (told_none a x u, record { more = []; noted = refl; took = refl; wrote = refl })

pub told_next : (a b d : Core) (xs : List Mail) (m : Mail) (x y z k u v w : KnownWriter) (n o : Noted) → Keeps z.bytes k.bytes → k.calls ≡ z.calls
    → (one : ToldAll a (all_told xs) (from_to x y) (from_to u v) b) → (t : TurnsTold b (told_of m) (from_to y z) (from_to v w) n o d)
    → (next : ToldAll a (all_told (xs ++ m ∷ [])) (from_to x k) (from_to u w) d) × MovesOn one next (told_of m, t.mark) t.bytes
told_next a b d xs m x y z k u v w n o keeps same one t =
    let P : List Told → Type 0 = λ ms. (next : ToldAll a ms (from_to x k) (from_to u w) d) × MovesOn one next (told_of m, t.mark) t.bytes in
    let on = going_on a b d (all_told xs) (told_of m) x y z u v w n o one t in
    let kept = told_kept a d _ x z k u w keeps same on.0 in
    subst P (sym (map-append told_of xs (m ∷ []))) (kept.0, (kept.1 ∙ on.1.0, kept.2 ∙ on.1.1))

-- whether it was asked to stop, after one more message
pub core_told : (a b d : Core) (xs : List Mail) (x : Mail) (w s w₁ s₁ w₂ s₂ : KnownWriting) (o r : Noted) (told due now gone : Bool)
    (one : ToldAll a (all_told xs) w s b) (t : TurnsTold b (told_of x) w₁ s₁ o r d) (next : ToldAll a (all_told (xs ++ x ∷ [])) w₂ s₂ d)
    → next.marked ≡ one.marked ++ (told_of x, t.mark) ∷ [] → gone ≡ has_left Keys (xs ++ x ∷ []) → due ≡ (core_stops d.progress && not gone)
    → now ≡ (told || due)
    → ((c : Run) → LeadsTo c a → StandsTold Keys all_told (Runs c) (λ r. core_stops r.progress) xs one.marked (core_stops b.progress) told)
    → (c : Run) → LeadsTo c a → StandsTold Keys all_told (Runs c) (λ r. core_stops r.progress) (xs ++ x ∷ []) next.marked (core_stops d.progress) now
core_told a b d xs x w s w₁ s₁ w₂ s₂ o r told due now gone one t next marks left is_due tells stands c at =
    let p = one.leads c at in
    let q = t.turn.leads p.0 p.2 in
    let B : Bool → Type 0 = λ n. StandsTold Keys all_told (Runs c) (λ r. core_stops r.progress) xs one.marked n told in
    let before = subst B (ap core_stops p.2.progress) (stands c at) in
    let due_now : due ≡ (core_stops q.0.progress && not (has_left Keys (xs ++ x ∷ []))) =
    is_due ∙ ap (λ (n : ClientProgress). core_stops n && not gone) q.2.progress ∙ ap (λ (n : Bool). core_stops q.0.progress && not n) left in
    let after = stands_more Keys all_told (Runs c) (λ r. core_stops r.progress) xs x one.marked (told_of x, t.mark) p.0 q.0 told due now before one.whole p.1
    (core_stays p.0 q.0 (told_of x) t.mark q.1) due_now tells in
    let M : List (Told × ClientMark) → Type 0 = λ ms. StandsTold Keys all_told (Runs c) (λ r. core_stops r.progress) (xs ++ x ∷ []) ms
    (core_stops q.0.progress) now
    in
    let N : Bool → Type 0 = λ n. StandsTold Keys all_told (Runs c) (λ r. core_stops r.progress) (xs ++ x ∷ []) next.marked n now in
    subst N (sym (ap core_stops q.2.progress)) (subst M (sym marks) after)
