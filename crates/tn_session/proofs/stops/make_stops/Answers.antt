use Rattle.crossbeam_channel.specs.Claims.{view}
use Rattle.tn_cores.proofs.lemmas.queue.Queue as channel
use Rattle.tn_session.proofs.stops.make_stops.Goals as goal

pub bounded_with-requires-clause-rule : goal.bounded_with-requires-clause-rule
bounded_with-requires-clause-rule c = channel.starts

pub another-taken-requires-clause-rule : goal.another-taken-requires-clause-rule
another-taken-requires-clause-rule c = channel.cut_taker c.in_ok-to.pass.id (view c.in_ok-to.pass)
