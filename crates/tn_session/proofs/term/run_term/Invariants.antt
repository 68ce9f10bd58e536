use Rattle.std.proofs.Common.{◌≡◌, ◌≤◌, ◌+◌, List, [], Option, ◌++◌, length, map}
use Rattle.crossbeam_channel.specs.{Claims.{view, IsSeatAt}, Ends.{sends_on, receives_on}}
use Rattle.tn_discipline.specs.declared.reads.Entry.{Entry}
use Rattle.tn_session.specs.{workers.{Credits.{owed_one, pieces_among, steps_among}, Mailbox.with_handled}, declared.workers.mail.Mail.Mail}
use Rattle.tn_session.specs.{declared.workers.mail.Sender.TheVariants.Back, Notes.{NotesAll, noted_of}, Stops.{IsTold, StandsTold, has_left, term_stops}}
use Rattle.tn_session.specs.Turns.{GoesOn, StaysInReach, lefts_of, messages_of}
use Rattle.tn_cores.specs.{queue.Queue.putter, streams.Known.known_writing, server.{Marks.Runs, Reaching.LeadsTo, Run.Run}}
use Rattle.tn_session.proofs.Finishing.{StandsAt}
use Rattle.tn_session.proofs.term.run_term.Given as goal

abbrev pub invariant-loop : goal.invariant-loop
invariant-loop g l =
    IsSeatAt (receives_on l.ends.from) l.passes.mails × IsSeatAt (sends_on l.ends.put) l.passes.hand
    × ((handled : List Mail) × (puts : List (Option Entry))
    × (view l.passes.mails ≡ with_handled (view l.fn.passes.mails) handled)
    × ((k : List (Option Entry)) → view l.fn.passes.hand ≡ putter k → view l.passes.hand ≡ putter (k ++ puts))
    × (l.lefts ≡ lefts_of handled)
    × (length (view l.passes.give).given + owed_one l.owed ≤ length (view l.fn.passes.give).given + 1 + pieces_among handled)
    × (goes : GoesOn l.fn.term (messages_of handled) (known_writing g.W.Drain.contents g.W.Drain.told l.fn.writer l.writer) puts l.term)
    × (length (view l.passes.step_credits.pass).given ≤ length (view l.fn.passes.step_credits.pass).given + steps_among handled)
    × (l.back_left ≡ has_left Back handled)
    × ((c : Run) → LeadsTo c l.fn.term → StandsTold Back messages_of (Runs c) (λ r. term_stops r.progress) handled goes.marked
    (term_stops l.term.progress) l.told)
    × NotesAll handled (map (λ s. s.1) goes.steps) (noted_of l.fn.output.transcript) (noted_of l.output.transcript))
    × (l.output.out.items ≡ []) × (l.lefts ≤ 3)
    × IsSeatAt (sends_on l.ends.give) l.passes.give × StaysInReach l.fn.term l.term.progress.ended
    × StandsAt l.closed l.term.progress.over (g.W.Drain.sending l.fn.writer) (g.W.Drain.sending l.writer)
    × IsSeatAt (sends_on l.watched.stops.to) l.watched.stops.pass
    × (l.watched.stops.to ≡ l.fn.watched.stops.to)
    × IsTold l.told (view l.watched.stops.pass)
    × IsSeatAt (sends_on l.passes.step_credits.to) l.passes.step_credits.pass
