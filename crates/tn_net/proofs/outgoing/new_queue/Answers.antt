use Rattle.crossbeam_channel.specs.Claims.{view}
use Rattle.tn_cores.proofs.lemmas.queue.Queue.{starts, cut_taker}
use Rattle.tn_net.proofs.outgoing.new_queue.Goals as goal

pub bounded_with-requires-clause-rule : goal.bounded_with-requires-clause-rule
bounded_with-requires-clause-rule g c = starts

pub another-taker-requires-clause-rule : goal.another-taker-requires-clause-rule
another-taker-requires-clause-rule g c = cut_taker c.in_ok-to.pass.id (view c.in_ok-to.pass)
