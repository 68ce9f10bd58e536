-- A run ends by a fault only if its cause was there.
use Rattle.std.proofs.Common.{◌≡◌, inl, inr, ℕ, Bool, true, false, List, refl, ap}
use Rattle.tn_cores.specs.{client.{Ending.{EndsAt, IsEndedAt}, Marks.{Turns, Runs}, Run.{Run, Acts, ActsUnless, start}}, declared.client.messages.Told.Told}
use Rattle.tn_cores.specs.{declared.{client.messages.{ClientMark.ClientMark, Origin.{Origin, TheVariants.{Keys, Net}}}, faults.Ended.Ended}, Counting.first_end}
use Rattle.tn_cores.specs.declared.{faults.SessionFault.SessionFault, messages.Message.Message}
use Rattle.tn_cores.specs.declared.messages.Message.TheVariants.{Piece, HangUp, ReadFailed, Take, Said, Refused, Left, Resized, Asked}
use Rattle.tn_cores.specs.declared.client.messages.ClientMark.TheVariants as mark
use Rattle.tn_cores.proofs.lemmas.Ending.{Moves, moves_first, fault_came}
use Rattle.tn_cores.specs.declared.faults.Ended.TheVariants as ended
use Rattle.tn_cores.specs.declared.faults.SessionFault.TheVariants as fault

abbrev ended_of : Run → Ended
ended_of c = c.progress.ended

-- the run ended so before, or ends at this message
abbrev MovesAt : Run → Told → ClientMark → Ended → Type 0
MovesAt c m k e = Moves (ended_of c) (EndsAt c m k) e

-- a message after which another end would count, had none come
moves_on : (c : Run) (m : Told) (k : ClientMark) (a e : Ended) (f : SessionFault) → e ≡ first_end a (ended.Fault f) → MovesAt c m k a →
    EndsAt c m k (ended.Fault f)
    → MovesAt c m k e
moves_on c m k a e f is before why = moves_first (ended_of c) (EndsAt c m k) a e f is before why

abbrev told : Origin → Message → Told
told from m = record { from = from; message = m }

acts_moves : (from : Origin) (m : Message) (k : ClientMark) (c new : Run) → Acts c from m new → MovesAt c (told from m) k (ended_of new)
acts_moves Keys (Piece piece) k c new a = inl (ap ended_of a)
acts_moves Net (Piece piece) k c new a = inl (ap ended_of a.2)
acts_moves Keys HangUp k c new a = inl (ap ended_of a)
acts_moves Net HangUp k c new a = inl (ap ended_of a)
acts_moves Keys ReadFailed k c new a = moves_on c (told Keys ReadFailed) k (ended_of c) (ended_of new) fault.Read (ap ended_of a) (inl refl) refl
acts_moves Net ReadFailed k c new a = moves_on c (told Net ReadFailed) k (ended_of c) (ended_of new) fault.Read (ap ended_of a) (inl refl) refl
acts_moves Keys Take k c new a = inl (ap ended_of a)
acts_moves Net Take k c new a = inl (ap ended_of a)
acts_moves Keys (Said id text after) k c new a = inl (ap ended_of a)
acts_moves Net (Said id text after) k c new a = inl (ap ended_of a)
acts_moves Keys Refused k c new a = moves_on c (told Keys Refused) k (ended_of c) (ended_of new) fault.Memory (ap ended_of a) (inl refl) refl
acts_moves Net Refused k c new a = moves_on c (told Net Refused) k (ended_of c) (ended_of new) fault.Memory (ap ended_of a) (inl refl) refl
acts_moves Keys Left k c new a = inl (ap ended_of a)
acts_moves Net Left k c new a = inl (ap ended_of a)
acts_moves Keys (Resized size) k c new a = inl (ap ended_of a)
acts_moves Net (Resized size) k c new a = inl (ap ended_of a)
acts_moves Keys (Asked control) k c new a = inl (ap ended_of a)
acts_moves Net (Asked control) k c new a = inl (ap ended_of a)

handles_moves : (o : Bool) (c new : Run) (m : Told) (k : ClientMark) → ActsUnless o c m new → MovesAt c m k (ended_of new)
handles_moves true c new m k a = inl (ap ended_of a)
handles_moves false c new m k a = acts_moves m.from m.message k c new a

turn_moves : (c new : Run) (m : Told) (k : ClientMark) → Turns c (m, k) new → MovesAt c m k (ended_of new)
turn_moves c new m mark.Whole t = handles_moves c.progress.over c new m mark.Whole t
turn_moves c new m mark.WriteFailed t =
    moves_on c m mark.WriteFailed (ended_of t.1) (ended_of new) fault.Write (ap ended_of t.3) (handles_moves c.progress.over c t.1 m mark.WriteFailed t.2)
    (inl refl)
turn_moves c new m mark.ShowFailed t =
    moves_on c m mark.ShowFailed (ended_of t.1) (ended_of new) fault.Write (ap ended_of t.3) (handles_moves c.progress.over c t.1 m mark.ShowFailed t.2)
    (inr refl)
turn_moves c new m (mark.Refused f) t =
    moves_on c m (mark.Refused f) (ended_of t.1) (ended_of new) (fault.Client f) (ap ended_of t.3) (handles_moves c.progress.over c t.1 m (mark.Refused f) t.2)
    (refl, t.4)

pub fault_cause : (width height limit : ℕ) (marked : List (Told × ClientMark)) (new : Run) (f : SessionFault) → Runs (start width height limit) marked new
    → new.progress.ended ≡ ended.Fault f → IsEndedAt (start width height limit) marked (ended.Fault f)
fault_cause width height limit marked new f runs e = fault_came Turns (λ at m k. EndsAt at m.0 m.1 k) ended_of (λ c d m t. turn_moves c d m.0 m.1 t) marked
    (start width height limit) new f runs refl e
