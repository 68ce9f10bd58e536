use Rattle.crossbeam_channel.specs.Claims.{view}
use Rattle.tn_session.proofs.Credits.{gives, learns}
use Rattle.tn_session.proofs.credit.CreditGiver.give.Goals as goal

pub send_as-requires-clause-rule : goal.send_as-requires-clause-rule
send_as-requires-clause-rule g c = (gives _ c.args.self.now.pass.id (view c.args.self.now.pass) _, learns c.args.self.now.pass.id (view c.args.self.now.pass))
