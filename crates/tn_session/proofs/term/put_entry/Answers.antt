use Rattle.std.proofs.Common.{ap}
use Rattle.crossbeam_channel.specs.Claims.{view}
use Rattle.tn_cores.proofs.lemmas.queue.Queue.{puts, leaves}
use Rattle.tn_session.proofs.term.put_entry.Goals as goal

pub send_as-requires-clause-rule : goal.send_as-requires-clause-rule
send_as-requires-clause-rule g c = (
  puts _ c.args.hand.now.id (view c.args.hand.now) c.args.entry c.requires.role.0 (ap (λ v. v.put) c.requires.role.1),
  leaves c.args.hand.now.id (view c.args.hand.now),
)
