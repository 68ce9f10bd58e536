use Rattle.std.proofs.Common.{IfSome, Some, subst, sym}
use Rattle.crossbeam_channel.specs.{Claims.{view, IsSeatAt}, Ends.sends_on}
use Rattle.tn_session.specs.workers.{Acts.job_acts, Stepping.AreSteps, Stops.{StopsStay, has_stopped}, Turning.{Holds, queue_of}}
use Rattle.tn_session.proofs.threads.start_back.Goals as goal

pub spawn_with-requires-clause-keeps : goal.spawn_with-requires-clause-keeps
spawn_with-requires-clause-keeps g c κs within r e =
    let acts = job_acts g.J.Job.reacts g.J.Job.steps g.J.Job.refuses in
    let by_seat = subst (λ to. IfSome r (λ left. IsSeatAt (sends_on to) left.pass
    × AreSteps (Holds c.args.queue.items) acts (queue_of c.args.tostop c.args.queue.items) (has_stopped left.stops) (view left.pass)
    × StopsStay (Some c.args.part.stops) left.stops)) (sym c.of.ensures) e in
    let by_queue = subst (λ queue. IfSome r (λ left. IsSeatAt (sends_on c.of.result.value) left.pass
    × AreSteps (Holds queue.items) acts (queue_of c.args.tostop queue.items) (has_stopped left.stops) (view left.pass)
    × StopsStay (Some c.args.part.stops) left.stops)) (sym c.of-2.ensures) by_seat in
    subst (λ stops. IfSome r (λ left. IsSeatAt (sends_on c.of.result.value) left.pass
    × AreSteps (Holds c.of-2.result.value.items) acts (queue_of c.args.tostop c.of-2.result.value.items) (has_stopped left.stops) (view left.pass)
    × StopsStay stops left.stops)) (sym c.of-3.ensures) by_queue
