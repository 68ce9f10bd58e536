-- If a client's session ends without a fault, nothing stopped having its effect.
use Rattle.std.proofs.Common.{◌≡◌, ℕ, Bool, true, false, List, [], ◌∷◌, refl, sym, ap, ◌∙◌, subst}
use Rattle.tn_cores.specs.{client.{Marks.{Turns, Runs}, Run.{Run, Acts, ActsUnless, start}}, declared.client.messages.{ClientMark.ClientMark, Origin.Origin}}
use Rattle.tn_cores.specs.{declared.{client.messages.{Origin.TheVariants.{Keys, Net}, Told.Told}, faults.Ended.Ended}, Counting.first_end}
use Rattle.tn_cores.specs.declared.{faults.SessionFault.SessionFault, messages.Message.Message}
use Rattle.tn_cores.specs.declared.messages.Message.TheVariants.{Piece, HangUp, ReadFailed, Take, Said, Refused, Left, Resized, Asked}
use Rattle.tn_cores.specs.declared.client.messages.ClientMark.TheVariants as mark
use Rattle.tn_cores.specs.declared.faults.Ended.TheVariants as ended
use Rattle.tn_cores.specs.declared.faults.SessionFault.TheVariants as fault

-- A FAILURE IS REPORTED
abbrev ended_of : Run → Ended
ended_of c = c.progress.ended

abbrev over_of : Run → Bool
over_of c = c.progress.over

abbrev Tells : Run → Type 0
Tells c = ended_of c ≡ ended.HangUp → over_of c ≡ false

not_ended : (e : Ended) (f : SessionFault) → first_end e (ended.Fault f) ≡ ended.HangUp → ⊥
not_ended ended.HangUp f e = cc
not_ended ended.Done f e = cc
not_ended (ended.Fault g) f e = cc

same : (c new : Run) → ended_of new ≡ ended_of c → over_of new ≡ over_of c → Tells c → Tells new
same c new e o t = λ h. o ∙ t (sym e ∙ h)

failed : (c new : Run) (f : SessionFault) → ended_of new ≡ first_end (ended_of c) (ended.Fault f) → Tells new
failed c new f e = λ h. absurd (not_ended (ended_of c) f (sym e ∙ h))

acts : (c new : Run) (from : Origin) (m : Message) → Acts c from m new → Tells c → Tells new
acts c new Keys (Piece piece) a t = same c new (ap ended_of a) (ap over_of a) t
acts c new Net (Piece piece) a t = same c new (ap ended_of a.2) (ap over_of a.2) t
acts c new Keys HangUp a t = same c new (ap ended_of a) (ap over_of a) t
acts c new Net HangUp a t = same c new (ap ended_of a) (ap over_of a) t
acts c new Keys ReadFailed a t = failed c new fault.Read (ap ended_of a)
acts c new Net ReadFailed a t = failed c new fault.Read (ap ended_of a)
acts c new Keys Take a t = same c new (ap ended_of a) (ap over_of a) t
acts c new Net Take a t = same c new (ap ended_of a) (ap over_of a) t
acts c new Keys (Said job text after) a t = same c new (ap ended_of a) (ap over_of a) t
acts c new Net (Said job text after) a t = same c new (ap ended_of a) (ap over_of a) t
acts c new Keys Refused a t = failed c new fault.Memory (ap ended_of a)
acts c new Net Refused a t = failed c new fault.Memory (ap ended_of a)
acts c new Keys Left a t = same c new (ap ended_of a) (ap over_of a) t
acts c new Net Left a t = same c new (ap ended_of a) (ap over_of a) t
acts c new Keys (Resized size) a t = same c new (ap ended_of a) (ap over_of a) t
acts c new Keys (Asked control) a t = same c new (ap ended_of a) (ap over_of a) t
acts c new Net (Resized size) a t = same c new (ap ended_of a) (ap over_of a) t
acts c new Net (Asked control) a t = same c new (ap ended_of a) (ap over_of a) t

handles : (o : Bool) (c new : Run) (x : Told) → ActsUnless o c x new → Tells c → Tells new
handles true c new x a t = same c new (ap ended_of a) (ap over_of a) t
handles false c new x a t = acts c new x.from x.message a t

turn_tells : (c new : Run) (x : Told) (k : ClientMark) → Turns c (x, k) new → Tells c → Tells new
turn_tells c new x mark.Whole a t = handles c.progress.over c new x a t
turn_tells c new x mark.WriteFailed a t = failed a.1 new fault.Write (ap ended_of a.3)
turn_tells c new x mark.ShowFailed a t = failed a.1 new fault.Write (ap ended_of a.3)
turn_tells c new x (mark.Refused f) a t = failed a.1 new (fault.Client f) (ap ended_of a.3)

run_tells : (marked : List (Told × ClientMark)) (c new : Run) → Runs c marked new → Tells c → Tells new
run_tells [] c new r t = subst (λ (x : Run). Tells x) r t
run_tells ((x, k) ∷ marked) c new r t = run_tells marked r.0 new r.2 (turn_tells c r.0 x k r.1 t)

pub goes_on_to_end : (width height limit : ℕ) (marked : List (Told × ClientMark)) (new : Run) → Runs (start width height limit) marked new
    → new.progress.ended ≡ ended.HangUp → new.progress.over ≡ false
goes_on_to_end width height limit marked new r = run_tells marked (start width height limit) new r (λ e. refl)
