use Rattle.crossbeam_channel.specs.Claims.{view}
use Rattle.tn_session.proofs.Credits.{gives, learns}
use Rattle.tn_session.proofs.credit.give_credit.Goals as goal

pub send_as-requires-clause-rule : goal.send_as-requires-clause-rule
send_as-requires-clause-rule g c = (gives _ c.args.pass.now.id (view c.args.pass.now) _, learns c.args.pass.now.id (view c.args.pass.now))
