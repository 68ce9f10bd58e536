use Rattle.std.proofs.Common.{◌≡◌, ◌≤◌, ◌||◌, List, [], map}
use Rattle.crossbeam_channel.specs.{Claims.{view, IsSeatAt}, Ends.{sends_on, receives_on}}
use Rattle.tn_cores.specs.{client.{Marks.Runs, Reaching.LeadsTo, Run.Run}, streams.Known.known_writing}
use Rattle.tn_session.specs.{CoreTurns.{ToldAll, all_told}, Notes.{NotesAll, no_notes, noted_of}, Stops.{IsTold, StandsTold, has_left, core_stops}}
use Rattle.tn_session.specs.{Turns.lefts_of, workers.Mailbox.with_handled, declared.workers.mail.{Mail.Mail, Sender.TheVariants.Keys}}
use Rattle.tn_session.proofs.Finishing.{StandsAt}
use Rattle.tn_session.proofs.client_loop.run_core.Given as goal

abbrev pub invariant-loop : goal.invariant-loop
invariant-loop g l =
    IsSeatAt (receives_on l.from) l.pass
    × ((handled : List Mail)
    × (view l.pass ≡ with_handled (view l.fn.pass) handled)
    × (l.lefts ≡ lefts_of handled)
    × (goes : ToldAll l.fn.core (all_told handled) (known_writing g.W.Drain.contents g.W.Drain.told l.fn.writer l.writer)
    (known_writing g.S.Drain.contents g.S.Drain.told l.fn.screen l.screen) l.core)
    × (l.keys_left ≡ has_left Keys handled)
    × ((c : Run) → LeadsTo c l.fn.core → StandsTold Keys all_told (Runs c) (λ r. core_stops r.progress) handled goes.marked (core_stops l.core.progress) l.told)
    × NotesAll handled (map (λ s. s.1) goes.steps) no_notes (noted_of l.output.transcript))
    × (l.output.out.items ≡ []) × (l.text.items ≡ []) × (l.lefts ≤ 2)
    × StandsAt l.closed (l.core.progress.over || l.core.progress.closed) (g.W.Drain.sending l.fn.writer) (g.W.Drain.sending l.writer)
    × IsSeatAt (sends_on l.watched.stops.to) l.watched.stops.pass
    × (l.watched.stops.to ≡ l.fn.watched.stops.to)
    × IsTold l.told (view l.watched.stops.pass)
