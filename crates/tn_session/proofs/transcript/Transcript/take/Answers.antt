use Rattle.crossbeam_channel.specs.Claims.{view}
use Rattle.tn_session.proofs.Mailbox.{handles, totals}
use Rattle.tn_session.proofs.transcript.Transcript.take.Goals as goal

pub recv_as-requires-clause-rule : goal.recv_as-requires-clause-rule
recv_as-requires-clause-rule g c = (
  handles c.args.pass.now.id (view c.args.pass.now) c.requires.role.0 c.requires.role.1,
  totals c.args.pass.now.id (view c.args.pass.now),
)
