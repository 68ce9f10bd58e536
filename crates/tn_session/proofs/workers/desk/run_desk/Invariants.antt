use Rattle.std.proofs.Common.{◌≡◌, List}
use Rattle.crossbeam_channel.specs.{Claims.{view, IsSeatAt}, Ends.{sends_on, receives_on}}
use Rattle.tn_discipline.specs.declared.reads.Entry.{Entry}
use Rattle.tn_jobs.specs.declared.reactions.Reaction.{Reaction}
use Rattle.tn_cores.specs.queue.Queue.{taker}
use Rattle.tn_session.specs.workers.Talk.{Answers, desk_sends, turns_said, entries_of}
use Rattle.tn_session.proofs.workers.desk.run_desk.Given as goal

abbrev pub invariant-loop : goal.invariant-loop
invariant-loop g l =
    IsSeatAt (sends_on l.seat.to) l.seat.pass × IsSeatAt (receives_on l.entries.from) l.entries.pass ×
    ((turns : List (Entry × Reaction)) × Answers g.J.Job.reacts l.fn.job turns l.job × (view l.seat.pass ≡ desk_sends (turns_said l.id turns))
    × (view l.entries.pass ≡ taker (entries_of turns)))
    × (l.seat.to ≡ l.fn.seat.to) × (l.entries.from ≡ l.fn.entries.from)
