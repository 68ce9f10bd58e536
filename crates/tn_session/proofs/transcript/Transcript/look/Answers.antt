use Rattle.crossbeam_channel.specs.Claims.{view}
use Rattle.tn_session.proofs.Mailbox.{handles, totals}
use Rattle.tn_session.proofs.transcript.Transcript.look.Goals as goal

pub try_recv_as-requires-clause-rule : goal.try_recv_as-requires-clause-rule
try_recv_as-requires-clause-rule g c = (
  handles c.args.pass.now.id (view c.args.pass.now) c.requires.role.0 c.requires.role.1,
  totals c.args.pass.now.id (view c.args.pass.now),
)
