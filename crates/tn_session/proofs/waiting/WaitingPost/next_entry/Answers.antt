use Rattle.std.proofs.Common.{ap}
use Rattle.crossbeam_channel.specs.Claims.{view}
use Rattle.tn_cores.proofs.lemmas.queue.Queue.{takes, leaves}
use Rattle.tn_session.proofs.waiting.WaitingPost.next_entry.Goals as goal

pub recv_as-requires-clause-rule : goal.recv_as-requires-clause-rule
recv_as-requires-clause-rule g c = (
  takes c.args.hand.now.id (view c.args.hand.now) c.requires.role.0 (ap (λ v. v.taken) c.requires.role.1),
  leaves c.args.hand.now.id (view c.args.hand.now),
)
