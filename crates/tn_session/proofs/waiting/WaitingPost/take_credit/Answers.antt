use Rattle.crossbeam_channel.specs.Claims.{view}
use Rattle.tn_session.proofs.Credits.{takes, learns}
use Rattle.tn_session.proofs.waiting.WaitingPost.take_credit.Goals as goal

pub recv_as-requires-clause-rule : goal.recv_as-requires-clause-rule
recv_as-requires-clause-rule g c = (takes c.args.seat.now.pass.id (view c.args.seat.now.pass), learns c.args.seat.now.pass.id (view c.args.seat.now.pass))
