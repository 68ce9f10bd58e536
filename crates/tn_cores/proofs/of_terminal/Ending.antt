-- A run ends by a fault only if its cause was there.
use Rattle.std.proofs.Common.{◌≡◌, ◌⊎◌, inl, inr, ⊎_elim, ℕ, Bool, true, false, ◌&&◌, Option, Some, None, List, refl, sym, ap, ◌∙◌, subst}
use Rattle.tn_discipline.specs.Canon.{Canon}
use Rattle.tn_jobs.specs.{Jobs.Jobs, declared.verdicts.{JobState.JobState, Verdict.Verdict}}
use Rattle.tn_jobs.specs.declared.verdicts.JobState.TheVariants as job
use Rattle.tn_server.specs.declared.openings.Approach.{Approach}
use Rattle.tn_cores.proofs.of_terminal.Hanging.{ended_of, ask_ended, halt_ended}
use Rattle.tn_cores.proofs.lemmas.Ending.{Moves, first_cases, moves_as, moves_first, run_moves, fault_came}
use Rattle.tn_cores.specs.{Counting.first_end, server.{Ending.{EndsAt, IsEndedAt, IsFaultCause}, Marks.{Turns, Runs, put_or_not, run_after_opening}, Run.start}}
use Rattle.tn_cores.specs.server.Run.{Run, Acts, ActsUnless, flush, feed, move, stop_job, end_job, in_foreground, echo_by, turn_echo, after_said, is_end, show}
use Rattle.tn_cores.specs.declared.{faults.{Ended.Ended, SessionFault.SessionFault}, server.messages.ServerMark.ServerMark, messages.Message.Message}
use Rattle.tn_cores.specs.declared.messages.Message.TheVariants.{Piece, ReadFailed, Take, Said, Refused}
use Rattle.tn_cores.specs.declared.faults.Ended.TheVariants as ended
use Rattle.tn_cores.specs.declared.faults.SessionFault.TheVariants as fault
use Rattle.tn_cores.specs.declared.server.messages.ServerMark.TheVariants as mark

-- the run ended so before, or ends at this message
abbrev MovesAt : Run → Message → ServerMark → Ended → Type 0
MovesAt c m k e = Moves (ended_of c) (EndsAt c m k) e

moves_to : (c : Run) (m : Message) (k : ServerMark) (e d : Ended) → d ≡ e → MovesAt c m k e → MovesAt c m k d
moves_to c m k e d is moves = moves_as (ended_of c) (EndsAt c m k) e d is moves

-- a message after which another end would count, had none come
moves_on : (c : Run) (m : Message) (k : ServerMark) (a e : Ended) (f : SessionFault) → e ≡ first_end a (ended.Fault f) → MovesAt c m k a
    → EndsAt c m k (ended.Fault f) → MovesAt c m k e
moves_on c m k a e f is before why = moves_first (ended_of c) (EndsAt c m k) a e f is before why

move_moves : (id : ℕ) (state : JobState) (c : Run) → (ended_of (move id state c) ≡ ended_of c) ⊎ (ended_of (move id state c) ≡ ended.Done)
move_moves id (job.Stopped why) c = stop (in_foreground c id)
  where
    stop : (b : Bool) → (ended_of (stop_job id why b c) ≡ ended_of c) ⊎ (ended_of (stop_job id why b c) ≡ ended.Done)
    stop true = inl refl
    stop false = inl refl
move_moves id job.Ended c = end (in_foreground c id)
  where
    end : (b : Bool) → (ended_of (end_job id b c) ≡ ended_of c) ⊎ (ended_of (end_job id b c) ≡ ended.Done)
    end true = first_cases (ended_of c) ended.Done
    end false = inl refl
move_moves id _ c = inl refl

said_moves : (id : ℕ) (parts : List (List ℕ)) (v : Option Verdict) (echo : Option Bool) (c : Run) (m : Message) (k : ServerMark)
    → MovesAt c m k (ended_of (after_said id parts v (turn_echo echo c)))
said_moves id parts None echo c m k = inl refl
said_moves id parts (Some v) echo c m k =
    let moved = move id v.next (turn_echo echo c) in
    moves_to c m k (ended_of moved) _ (halt_ended (is_end v.next && in_foreground c id) (flush (show parts moved)))
    (⊎_elim (λ s. inl s) (λ s. moves_to c m k ended.Done (ended_of moved) s (inr tt)) (move_moves id v.next (turn_echo echo c)))

acts_moves : (c new : Run) (m : Message) (k : ServerMark) → Acts c m new → MovesAt c m k (ended_of new)
acts_moves c new (Piece piece) k a = inl (ap ended_of a.2 ∙ ask_ended c.progress.asks (feed piece a.0 c))
acts_moves c new ReadFailed k a = moves_on c ReadFailed k (ended_of c) (ended_of new) fault.Read (ap ended_of a) (inl refl) refl
acts_moves c new Take k a = inl (ap ended_of a ∙ ask_ended true c)
acts_moves c new (Said id text after) k a = moves_to c (Said id text after) k _ (ended_of new) (ap ended_of a.2)
    (said_moves id.0 a.0 _ (echo_by (in_foreground c id.0) after) c (Said id text after) k)
acts_moves c new Refused k a = moves_on c Refused k (ended_of c) (ended_of new) fault.Memory (ap ended_of a) (inl refl) refl
acts_moves c new _ k a = inl (ap ended_of a)

handles_moves : (o : Bool) (c new : Run) (m : Message) (k : ServerMark) → ActsUnless o c m new → MovesAt c m k (ended_of new)
handles_moves true c new m k a = inl (ap ended_of a)
handles_moves false c new m k a = acts_moves c new m k a

unput_ended : (put : Bool) (m : Message) (c whole : Run) → ended_of (put_or_not put m c whole) ≡ ended_of whole
unput_ended true m c whole = refl
unput_ended false m c whole = refl

turn_moves : (c new : Run) (m : Message) (k : ServerMark) → Turns c (m, k) new → MovesAt c m k (ended_of new)
turn_moves c new m mark.Whole t = handles_moves c.progress.over c new m mark.Whole t
turn_moves c new m mark.WriteFailed t =
    moves_on c m mark.WriteFailed (ended_of t.1) (ended_of new) fault.Write (ap ended_of t.3) (handles_moves c.progress.over c t.1 m mark.WriteFailed t.2) refl
turn_moves c new m (mark.Refused f put) t =
    let k : ServerMark = mark.Refused f put in
    let done = put_or_not put m c t.1 in
    moves_on c m k (ended_of done) (ended_of new) (fault.Server f) (ap ended_of t.3)
    (moves_to c m k (ended_of t.1) (ended_of done) (unput_ended put m c t.1) (handles_moves c.progress.over c t.1 m k t.2)) (put, refl, t.4)

pub turned : (c new : Run) (m : Message × ServerMark) → Turns c m new → Moves (ended_of c) (EndsAt c m.0 m.1) (ended_of new)
turned c new m t = turn_moves c new m.0 m.1 t

ended_at : (opens : Bool) (c : Run) (marked : List (Message × ServerMark)) (f : SessionFault) → IsEndedAt c marked (ended.Fault f) →
    IsFaultCause opens c marked f
ended_at opens c marked fault.Write r = inr r
ended_at opens c marked _ r = r

fault_is : (f g : SessionFault) → ended.Fault f ≡ ended.Fault g → f ≡ g
fault_is f g e = cc

pub fault_cause : (opens : Bool) (canon : Canon) (approach : Approach) (jobs : Jobs) (marked : List (Message × ServerMark)) (new : Run) (f : SessionFault)
    → Runs (run_after_opening opens (start canon approach jobs)) marked new → new.progress.ended ≡ ended.Fault f
    → IsFaultCause opens (run_after_opening opens (start canon approach jobs)) marked f
fault_cause true canon approach jobs marked new f runs e =
    let c = start canon approach jobs in
    ended_at true c marked f (fault_came Turns (λ at m k. EndsAt at m.0 m.1 k) ended_of turned marked c new f runs refl e)
fault_cause false canon approach jobs marked new f runs e =
    let c = run_after_opening false (start canon approach jobs) in
    ⊎_elim
    (λ s. subst (λ (g : SessionFault). IsFaultCause false c marked g) (sym (fault_is f fault.Write (sym e ∙ s))) (inl refl))
    (λ r. ended_at false c marked f (subst (λ (x : Ended). IsEndedAt c marked x) e r))
    (run_moves Turns (λ at m k. EndsAt at m.0 m.1 k) ended_of turned marked c new runs)
