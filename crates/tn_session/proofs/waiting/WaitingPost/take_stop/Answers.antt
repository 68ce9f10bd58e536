use Rattle.std.proofs.Common.{ap}
use Rattle.crossbeam_channel.specs.Claims.{view}
use Rattle.tn_cores.proofs.lemmas.queue.Queue as channel
use Rattle.tn_session.proofs.waiting.WaitingPost.take_stop.Goals as goal

pub try_recv_as-requires-clause-rule : goal.try_recv_as-requires-clause-rule
try_recv_as-requires-clause-rule g c = (
  channel.takes c.args.seat.now.pass.id (view c.args.seat.now.pass) c.requires.role.0
      (ap (λ v. v.taken) c.requires.role.1),
  channel.leaves c.args.seat.now.pass.id (view c.args.seat.now.pass),
)
