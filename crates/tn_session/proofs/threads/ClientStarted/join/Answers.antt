use Rattle.std.proofs.Common.{subst}
use Rattle.crossbeam_channel.specs.Claims.{view}
use Rattle.tn_session.proofs.Stopped.{unseated}
use Rattle.tn_session.specs.workers.{Reader.TypingSends, Stops.StopsStay}
use Rattle.tn_cores.specs.streams.Known.{known_typing}
use Rattle.tn_session.proofs.threads.ClientStarted.join.Goals as goal

pub returns-clause-net : goal.returns-clause-net
returns-clause-net g c =
    let promise = c.args.self.net.promise in
    let left = c.in_ok-net.field-0 in
    let known = known_typing g.N.Source.remaining g.N.Source.foretold g.N.Source.sizes g.N.Source.words g.N.Source.controls promise.reader.value in
    let kept = c.in_ok-net.ensures in (
      kept.0,
      λ none. subst (λ b. TypingSends promise.who promise.job b known (view left.pass))
          (unseated left.stops (subst (λ o. StopsStay o left.stops) none kept.2)) kept.1,
    )
