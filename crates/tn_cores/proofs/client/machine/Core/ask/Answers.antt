use Rattle.tn_cores.proofs.of_core.Doing.{does_not_send}
use Rattle.tn_cores.proofs.client.machine.Core.ask.Goals as goal

pub returns-in-Net-clause-ok : goal.returns-in-Net-clause-ok
returns-in-Net-clause-ok c = rw c.in-Net.is (does_not_send c.args.control c.args.self.now c.args.out.now.items c.args.screen.now.items c.requires)
