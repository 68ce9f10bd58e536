use Rattle.std.proofs.Common.{◌≡◌, List, map, length}
use Rattle.crossbeam_channel.specs.{Claims.{view, IsSeatAt}, Ends.{sends_on, receives_on}}
use Rattle.tn_jobs.specs.declared.{held_jobs.JobId.JobId, reactions.Reaction.Reaction}
use Rattle.tn_session.specs.{declared.workers.mail.Sender.TheVariants.Back, workers.{Credits.HaveUsed, Mailbox.{sender, mail}, Stops.StopsStay}}
use Rattle.tn_session.specs.workers.{Stepping.{StepInTurn, step_said}, Turning.{Holds, Running, ids_of}}
use Rattle.tn_session.proofs.workers.back.run_back.Given as goal

abbrev pub invariant-loop : goal.invariant-loop
invariant-loop g l =
    IsSeatAt (sends_on l.seat.to) l.seat.pass
    × ((said : List (JobId × Reaction)) × (view l.seat.pass ≡ sender Back (map (mail Back) (map step_said said)))
    × Running (Holds l.fn.queue.items) g.J.Job.steps l.fn.tostop (ids_of l.fn.queue.items) said l.queue.items
    × StepInTurn l.fn.tostop (ids_of l.fn.queue.items) said (ids_of l.queue.items) × HaveUsed (length said) l.fn.credits l.credits)
    × StopsStay l.fn.stops l.stops
    × IsSeatAt (receives_on l.credits.seat.from) l.credits.seat.pass
    × (l.seat.to ≡ l.fn.seat.to)
