-- A session whose messages are welcome does not end because too many entries wait.
use Rattle.std.proofs.Common.{◌≡◌, ℕ, Bool, true, false, List, sym, ap, ◌∙◌, subst}
use Rattle.tn_cores.specs.{Counting.first_end, declared.{faults.Ended.{Ended, TheVariants.{HangUp, Done, Fault}}, messages.Message.Message}, server.Run.Run}
use Rattle.tn_cores.specs.{server.{Marks.run_after_opening, Reaching.LeadsTo, Welcoming.{IsWelcome, too_far_ahead}}, declared.server.terminal.Term.Term}
use Rattle.tn_cores.specs.{declared.server.progress.ServerProgress.ServerProgress, streams.Known.KnownWriting}
use Rattle.tn_cores.specs.declared.faults.SessionFault.TheVariants as fault
use Rattle.tn_discipline.specs.declared.reads.Entry.{Entry}
use Rattle.std.specs.Prelude.{Option}
use Rattle.tn_session.specs.{Notes.{Noted, no_notes}, Session.IsOpening, Turns.{GoesOn, TurnsMessage, StaysInReach}, workers.EntryChannel.EntryHand}
use Rattle.tn_cores.proofs.lemmas.server.Welcoming.{stays_in_reach}

ended_as : (c : Run) (t : Term) → LeadsTo c t → t.progress.ended ≡ c.progress.ended
ended_as c t at = ap (λ (p : ServerProgress). p.ended) at.progress

pub reach_start : (t : Term) → StaysInReach t t.progress.ended
reach_start t c at e = sym (ended_as c t at) ∙ e

pub reach_next : (a b d : Term) (ms : List Message) (m : Message) (w u : KnownWriting) (puts : List (Option Entry)) (n o : Noted) (v h : EntryHand)
    → GoesOn a ms w puts b → TurnsMessage b m u n o v h d → ((c : Run) → LeadsTo c b → IsWelcome c m) → StaysInReach a b.progress.ended
    → StaysInReach a d.progress.ended
reach_next a b d ms m w u puts n o v h goes turn welcome reach c at e =
    let p = goes.leads c at in
    let q = turn.turn.leads p.0 p.2 in
    let before = stays_in_reach p.0 q.0 b m turn.mark p.2 (welcome p.0 p.2) q.1 (sym (ended_as q.0 d q.2) ∙ e) in
    reach c at (ended_as p.0 b p.2 ∙ before)

no_write : Fault fault.Write ≡ too_far_ahead → ⊥
no_write e = cc

first_was : (a : Ended) → first_end a (Fault fault.Write) ≡ too_far_ahead → a ≡ too_far_ahead
first_was HangUp e = absurd (no_write e)
first_was Done e = e
first_was (Fault f) e = e

opened_was : (written : Bool) (c : Run) → (run_after_opening written c).progress.ended ≡ too_far_ahead → c.progress.ended ≡ too_far_ahead
opened_was true c e = e
opened_was false c e = first_was c.progress.ended e

-- the opening messages
pub reach_opened : (old new : Term) (words : List ℕ) (w : KnownWriting) (n t : Noted) (ended : Ended) → IsOpening old words w n t new → StaysInReach new ended
    → StaysInReach old ended
reach_opened old new words w n t ended o reach c at e = opened_was o.written c (reach (run_after_opening o.written c) (o.leads c at) e)

pub never_begun : HangUp ≡ too_far_ahead → ⊥
never_begun e = cc

-- the opening messages are noted from no notes on
pub opened_as : (old new : Term) (words : List ℕ) (w : KnownWriting) (n t : Noted) → n ≡ no_notes → IsOpening old words w n t new
    → IsOpening old words w no_notes t new
opened_as old new words w n t e o = subst (λ (m : Noted). IsOpening old words w m t new) e o
