use Rattle.std.proofs.Common.{IfSome, subst, sym}
use Rattle.crossbeam_channel.specs.{Claims.{view, IsSeatAt}, Ends.sends_on}
use Rattle.tn_session.specs.workers.{Reader.TypingSends, Stops.{StopsStay, has_stopped}}
use Rattle.tn_cores.specs.streams.Known.{known_typing}
use Rattle.tn_session.proofs.threads.start_reader.Goals as goal

pub spawn_with-requires-clause-keeps : goal.spawn_with-requires-clause-keeps
spawn_with-requires-clause-keeps g c κs within r e =
    let known = known_typing g.Rd.Source.remaining g.Rd.Source.foretold g.Rd.Source.sizes g.Rd.Source.words g.Rd.Source.controls in
    let part = c.args.part in
    let by_seat = subst (λ to. IfSome r (λ left. IsSeatAt (sends_on to) left.pass
    × TypingSends part.who part.job (has_stopped left.stops) (known c.args.reader) (view left.pass) × StopsStay c.args.stops left.stops))
    (sym c.of.ensures) e in
    let by_reader = subst (λ reader. IfSome r (λ left. IsSeatAt (sends_on c.of.result.value) left.pass
    × TypingSends part.who part.job (has_stopped left.stops) (known reader) (view left.pass) × StopsStay c.args.stops left.stops))
    (sym c.of-2.ensures) by_seat in
    subst (λ stops. IfSome r (λ left. IsSeatAt (sends_on c.of.result.value) left.pass
    × TypingSends part.who part.job (has_stopped left.stops) (known c.of-2.result.value) (view left.pass) × StopsStay stops left.stops))
    (sym c.of-3.ensures) by_reader
