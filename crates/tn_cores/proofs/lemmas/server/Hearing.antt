-- The bytes of the pieces that were read, and the entries that they give.
use Rattle.std.proofs.Common.{◌≡◌, ℕ, Bool, true, false, ◌&&◌, Option, Some, None, List, [], ◌∷◌, ◌++◌, map, refl, sym, ap, ◌∙◌, subst, append-nil}
use Rattle.std.proofs.Common.{append_assoc}
use Rattle.tn_cores.proofs.{lemmas.{Folding.run_takes, server.Giving.acts_of}, of_terminal.Alike.same_entries}
use Rattle.tn_cores.proofs.of_terminal.Alike.{of_items_gets, items_parts, OfItems, SameLines, lines_self, lines_took, lines_echo, lines_flushed, lines_parts}
use Rattle.tn_discipline.proofs.lemmas.Histories.{entries-all}
use Rattle.tn_discipline.specs.{Canon.Canon, Entries.half_of, Keys.roles_from, Steps.gain_all, declared.reads.Entry.Entry}
use Rattle.tn_jobs.specs.{Jobs.Jobs, declared.verdicts.{JobState.JobState, Verdict.Verdict}}
use Rattle.tn_jobs.specs.declared.verdicts.JobState.TheVariants as job
use Rattle.tn_linemode.specs.{Modes.edits, Prefixes.IsRead}
use Rattle.tn_nvt.proofs.lemmas.Reading.{reads_none, reads_on, one_reading}
use Rattle.tn_nvt.specs.declared.items.Item.{Item}
use Rattle.tn_server.proofs.lemmas.Histories.{items-gets, gets-append}
use Rattle.tn_server.specs.{Course.in_parts, Events.{History, next, got, took, items, gets, limit}, Lines.{entries, roles, role_at, waiting}}
use Rattle.tn_server.specs.{Terms.{settings, mode}, declared.openings.Approach.Approach}
use Rattle.tn_cores.specs.{Pieces.bytes_in, server.{Hearing.{heard, Hears, entries_by}, Marks.{Turns, Runs, put_or_not, run_after_opening}}}
use Rattle.tn_cores.specs.server.Run.{Run, Acts, ActsUnless, flushed_history, flush, feed, ask, ask_if, answer, hang_up, ends_by, move, stop_job, end_job}
use Rattle.tn_cores.specs.server.Run.{in_foreground, echo_by, echoed, turn_echo, after_said, halt_if, is_end, show, fail, opening, start}
use Rattle.tn_cores.specs.declared.{faults.Ended.TheVariants.Fault, server.messages.ServerMark.ServerMark, messages.Message.Message}
use Rattle.tn_cores.specs.declared.messages.Message.TheVariants.{Piece, HangUp, ReadFailed, Take, Said, Refused, Left, Resized, Asked}
use Rattle.tn_cores.specs.declared.faults.SessionFault.TheVariants as fault
use Rattle.tn_cores.specs.declared.server.messages.ServerMark.TheVariants as mark

-- the history of a stream
record Heard (first : History) (stream : List ℕ) (h : History) : Type 0 where
  read : IsRead stream (items h)
  lines : OfItems first h

heard_as : (first h k : History) (s t : List ℕ) → t ≡ s → k ≡ h → Heard first s h → Heard first t k
heard_as first h k s t es eh a = subst (λ (u : List ℕ × History). Heard first u.0 u.1) (λ i. (sym es i, sym eh i)) a

heard_flushed : (first h : History) (s : List ℕ) → Heard first s h → Heard first s (flushed_history h)
heard_flushed first h s a = record { read = a.read; lines = lines_flushed h (gets first (items h)) a.lines }

abbrev took_if : Bool → History → History
took_if true h = next h took
took_if false h = h

heard_took_if : (b : Bool) (first h : History) (s : List ℕ) → Heard first s h → Heard first s (took_if b h)
heard_took_if true first h s a = record { read = a.read; lines = lines_took h (gets first (items h)) a.lines }
heard_took_if false first h s a = a

heard_echoed : (echo : Option Bool) (first h : History) (s : List ℕ) → Heard first s h → Heard first s (echoed echo h)
heard_echoed None first h s a = a
heard_echoed (Some on) first h s a = record { read = a.read; lines = lines_echo h (gets first (items h)) on a.lines }

heard_gets : (first h : History) (s t : List ℕ) (xs : List Item) → IsRead t (items h ++ xs) → Heard first s h → Heard first t (gets h xs)
heard_gets first h s t xs r a = record {
  read = subst (λ (ys : List Item). IsRead t ys) (sym (items-gets h xs)) r;
  lines = of_items_gets first h xs a.lines;
}

heard_parts : (first h : History) (s : List ℕ) (parts : List (List ℕ)) → Heard first s h → Heard first s (in_parts h parts)
heard_parts first h s parts a = record {
  read = subst (λ (ys : List Item). IsRead s ys) (sym (items_parts h parts)) a.read;
  lines = subst (λ (ys : List Item). SameLines (in_parts h parts) (gets first ys)) (sym (items_parts h parts))
      (lines_parts h (gets first (items h)) parts a.lines);
}

-- THE RUN TO WHICH A MESSAGE LEADS

-- the end is as it was
pub record KeepsEnd (c d : Run) : Type 0 where
  pub history : d.history ≡ c.history
  pub stream : d.stream ≡ c.stream

answer_keeps : (c : Run) (ws : List Entry) → KeepsEnd c (answer c ws)
answer_keeps c [] = record { history = refl; stream = refl }
answer_keeps c (w ∷ ws) = record { history = refl; stream = refl }

pub move_keeps : (id : ℕ) (state : JobState) (c : Run) → KeepsEnd c (move id state c)
move_keeps id (job.Stopped why) c = stop (in_foreground c id)
  where
    stop : (b : Bool) → KeepsEnd c (stop_job id why b c)
    stop true = record { history = refl; stream = refl }
    stop false = record { history = refl; stream = refl }
move_keeps id job.Ended c = end (in_foreground c id)
  where
    end : (b : Bool) → KeepsEnd c (end_job id b c)
    end true = record { history = refl; stream = refl }
    end false = record { history = refl; stream = refl }
move_keeps id _ c = record { history = refl; stream = refl }

halt_keeps : (b : Bool) (c : Run) → KeepsEnd c (halt_if b c)
halt_keeps true c = record { history = refl; stream = refl }
halt_keeps false c = record { history = refl; stream = refl }

-- the message was taken, and the bytes of its piece were read
record Hearing (first : History) (m : Message) (c new : Run) : Type 0 where
  stream : new.stream ≡ c.stream ++ bytes_in m
  heard_on : Heard first new.stream new.history

hearing_as : (first : History) (m : Message) (c d new : Run) → new ≡ d → Hearing first m c d → Hearing first m c new
hearing_as first m c d new e a = let P : Run → Type 0 = λ u. Hearing first m c u in subst P (sym e) a

-- a message that brings no bytes
hearing_none : (first : History) (m : Message) (c new : Run) → bytes_in m ≡ [] → new.stream ≡ c.stream → Heard first c.stream new.history
    → Hearing first m c new
hearing_none first m c new e s a =
    let P : List ℕ → Type 0 = λ t. Heard first t new.history in
    record { stream = s ∙ sym (append-nil c.stream) ∙ ap (λ (bs : List ℕ). c.stream ++ bs) (sym e); heard_on = subst P (sym s) a }

hearing_ask_if : (b : Bool) (first : History) (c : Run) (s : List ℕ) → c.stream ≡ s → Heard first s c.history → ((ask_if b c).stream ≡ s)
    × Heard first s (ask_if b c).history
hearing_ask_if false first c s e a = (e, a)
hearing_ask_if true first c s e a =
    let k = answer_keeps (record c { history = next c.history took }) (waiting c.history) in
    (k.stream ∙ e, heard_as first (next c.history took) (ask c).history s s refl k.history (heard_took_if true first c.history s a))

hearing_said : (first : History) (c : Run) (id : ℕ) (parts : List (List ℕ)) (v : Option Verdict) → Heard first c.stream c.history
    → ((after_said id parts v c).stream ≡ c.stream) × Heard first c.stream (after_said id parts v c).history
hearing_said first c id parts None a = (refl, heard_flushed first c.history c.stream a)
hearing_said first c id parts (Some v) a =
    let m = move id v.next c in
    let same = move_keeps id v.next c in
    let d = flush (show parts m) in
    let b = is_end v.next && in_foreground c id in
    let halted = halt_keeps b d in
    let here : Heard first c.stream d.history = heard_flushed first (in_parts m.history parts) c.stream
    (heard_parts first m.history c.stream parts (heard_as first c.history m.history c.stream c.stream refl same.history a)) in
    (halted.stream ∙ same.stream, heard_as first d.history (halt_if b d).history c.stream c.stream refl halted.history here)

hearing_acts : (first : History) (m : Message) (c new : Run) → Acts c m new → Heard first c.stream c.history → Hearing first m c new
hearing_acts first (Piece piece) c new a h =
    let fed = feed piece a.0 c in
    let asked = hearing_ask_if c.progress.asks first fed (c.stream ++ piece) refl (heard_gets first c.history c.stream (c.stream ++ piece) a.0 a.1 h) in
    let d = ask_if c.progress.asks fed in
    let P : List ℕ → Type 0 = λ t. Heard first t (flushed_history d.history) in
    hearing_as first (Piece piece) c (flush d) new a.2 (record {
      stream = asked.0;
      heard_on = subst P (sym asked.0) (heard_flushed first d.history (c.stream ++ piece) asked.1);
    })
hearing_acts first HangUp c new a h = hearing_as first HangUp c (flush (hang_up c)) new a
    (hearing_none first HangUp c (flush (hang_up c)) refl refl (heard_flushed first c.history c.stream h))
hearing_acts first ReadFailed c new a h =
    let d = flush (hang_up (ends_by (Fault fault.Read) c)) in
    hearing_as first ReadFailed c d new a (hearing_none first ReadFailed c d refl refl (heard_flushed first c.history c.stream h))
hearing_acts first Take c new a h =
    let asked = hearing_ask_if true first c c.stream refl h in
    hearing_as first Take c (flush (ask c)) new a (hearing_none first Take c (flush (ask c)) refl asked.0
    (heard_flushed first (ask c).history c.stream asked.1))
hearing_acts first (Said id text after) c new a h =
    let echo = echo_by (in_foreground c id.0) after in
    let said = hearing_said first (turn_echo echo c) id.0 a.0 _ (heard_echoed echo first c.history c.stream h) in
    hearing_as first (Said id text after) c _ new a.2 (hearing_none first (Said id text after) c _ refl said.0 said.1)
hearing_acts first Refused c new a h = hearing_as first Refused c _ new a (hearing_none first Refused c _ refl refl (heard_flushed first c.history c.stream h))
hearing_acts first Left c new a h = hearing_as first Left c (flush c) new a
    (hearing_none first Left c (flush c) refl refl (heard_flushed first c.history c.stream h))
hearing_acts first (Resized size) c new a h = hearing_as first (Resized size) c (flush c) new a
    (hearing_none first (Resized size) c (flush c) refl refl (heard_flushed first c.history c.stream h))
hearing_acts first (Asked control) c new a h = hearing_as first (Asked control) c (flush c) new a
    (hearing_none first (Asked control) c (flush c) refl refl (heard_flushed first c.history c.stream h))

-- ONE MESSAGE WITH ITS MARK

put_or_not_keeps : (put : Bool) (m : Message) (c whole : Run) → KeepsEnd whole (put_or_not put m c whole)
put_or_not_keeps true m c whole = record { history = refl; stream = refl }
put_or_not_keeps false m c whole = record { history = refl; stream = refl }

-- a message is read while messages have their effect
turned_on : (first : History) (m : Message) (k : ServerMark) (c new : Run) → c.progress.over ≡ false → Turns c (m, k) new → Heard first c.stream c.history
    → Hearing first m c new
turned_on first m mark.Whole c new on t h = hearing_acts first m c new (acts_of c.progress.over c new m on t) h
turned_on first m mark.WriteFailed c new on t h =
    let w = hearing_acts first m c t.1 (acts_of c.progress.over c t.1 m t.0 t.2) h in
    hearing_as first m c (fail fault.Write t.1) new t.3 (record { stream = w.stream; heard_on = w.heard_on })
turned_on first m (mark.Refused f put) c new on t h =
    let w = hearing_acts first m c t.1 (acts_of c.progress.over c t.1 m t.0 t.2) h in
    let same = put_or_not_keeps put m c t.1 in
    let d = put_or_not put m c t.1 in
    hearing_as first m c (fail (fault.Server f) d) new t.3 (record {
      stream = same.stream ∙ w.stream;
      heard_on = heard_as first t.1.history d.history t.1.stream d.stream same.stream same.history w.heard_on;
    })

-- a run that is over keeps its stream and its history
record Stays (c new : Run) : Type 0 where
  over : new.progress.over ≡ true
  stream : new.stream ≡ c.stream
  history : new.history ≡ c.history

stays_idle : (o : Bool) (m : Message) (c new : Run) → c.progress.over ≡ true → o ≡ true → ActsUnless o c m new → Stays c new
stays_idle true m c new off e a = let P : Run → Type 0 = λ u. Stays c u in subst P (sym a) (record { over = off; stream = refl; history = refl })
stays_idle false m c new off e a = cc

true_false : true ≡ false → ⊥
true_false e = cc

turned_off : (m : Message) (k : ServerMark) (c new : Run) → c.progress.over ≡ true → Turns c (m, k) new → Stays c new
turned_off m mark.Whole c new off t = stays_idle c.progress.over m c new off off t
turned_off m _ c new off t = absurd (true_false (sym off ∙ t.0))

-- ALL MESSAGES

turned_hearing : (first : History) (c new : Run) (m : Message × ServerMark) → c.progress.over ≡ false → Turns c m new → Heard first c.stream c.history
    → (new.stream ≡ c.stream ++ bytes_in m.0) × Heard first new.stream new.history
turned_hearing first c new m on t h = let one = turned_on first m.0 m.1 c new on t h in (one.stream, one.heard_on)

turned_stays : (first : History) (c new : Run) (m : Message × ServerMark) → c.progress.over ≡ true → Turns c m new → Heard first c.stream c.history
    → (new.progress.over ≡ true) × (new.stream ≡ c.stream) × Heard first new.stream new.history
turned_stays first c new m off t h =
    let s = turned_off m.0 m.1 c new off t in
    (s.over, s.stream, heard_as first c.history new.history c.stream new.stream s.stream s.history h)

-- a run before its first message
begun_history : (b : Bool) (canon : Canon) (approach : Approach) (jobs : Jobs) → (run_after_opening b (start canon approach jobs)).history ≡ opening canon approach
begun_history true canon approach jobs = refl
begun_history false canon approach jobs = refl

begun_stream : (b : Bool) (canon : Canon) (approach : Approach) (jobs : Jobs) → (run_after_opening b (start canon approach jobs)).stream ≡ []
begun_stream true canon approach jobs = refl
begun_stream false canon approach jobs = refl

pub hears : (b : Bool) (canon : Canon) (approach : Approach) (jobs : Jobs) (marked : List (Message × ServerMark)) (new : Run)
    → Runs (run_after_opening b (start canon approach jobs)) marked new → Hears canon approach (map (λ m. m.0) marked) new
hears b canon approach jobs marked new runs =
    let o = opening canon approach in
    let c = run_after_opening b (start canon approach jobs) in
    let begun = begun_stream b canon approach jobs in
    let r = run_takes Turns (λ (u : Run). u.progress.over) (λ u. Heard o u.stream u.history) (λ u. u.stream) (λ (m : Message × ServerMark). m.0) bytes_in
    (record { on = turned_hearing o; off = turned_stays o }) marked c new runs
    (heard_as o o c.history [] c.stream begun (begun_history b canon approach jobs) (record { read = ([], reads_none); lines = lines_self o })) in
    record {
      unheard = r.0.rest;
      stream_first = ap (λ (bs : List ℕ). bs ++ heard (map (λ m. m.0) marked)) (sym begun) ∙ r.0.front;
      all = r.0.whole;
      read = r.1.read;
      entries_are = same_entries new.history (gets o (items new.history)) r.1.lines;
    }

-- THE ENTRIES OF MORE BYTES

entries_more : (h : History) (xs : List Item) → (more : List Entry) × (entries (gets h xs) ≡ entries h ++ more)
entries_more h [] = ([], sym (append-nil (entries h)))
entries_more h (x ∷ xs) =
    let r = roles_from (role_at (settings h) (edits (mode h)) x) in
    let gain = gain_all (limit h) (half_of (limit h) (roles h)) r in
    let on = entries_more (next h (got x)) xs in
    (gain ++ on.0, on.1 ∙ ap (λ (es : List Entry). es ++ on.0) (entries-all (limit h) (roles h) r) ∙ append_assoc (entries h) gain on.0)

-- the entries of the first bytes begin those of all
pub entries_grow : (canon : Canon) (approach : Approach) (stream rest : List ℕ) (had xs : List Item) → IsRead stream had → IsRead (stream ++ rest) xs
    → (more : List Entry) × (entries_by canon approach xs ≡ entries_by canon approach had ++ more)
entries_grow canon approach stream rest had xs r s =
    let o = opening canon approach in
    let on = reads_on stream rest r.0 s.0 had xs r.1 s.1 in
    let grown = entries_more (gets o had) on.0 in
    (grown.0, ap (λ (ys : List Item). entries (gets o ys)) on.1 ∙ ap entries (gets-append o had on.0) ∙ grown.1)

-- the entries of the first bytes are all of them, if there are no more bytes
pub entries_same : (canon : Canon) (approach : Approach) (stream : List ℕ) (had xs : List Item) → IsRead stream had → IsRead stream xs
    → entries_by canon approach xs ≡ entries_by canon approach had
entries_same canon approach stream had xs r s = ap (entries_by canon approach) (sym (one_reading stream r.0 s.0 had xs r.1 s.1).0)
