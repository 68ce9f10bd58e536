use Rattle.tn_cli.proofs.Watching.{watches_byte}
use Rattle.tn_cli.proofs.unprinted.Watch.step.Goals as goal

pub returns : goal.returns
returns c = watches_byte c.args.self.now _ c.args.byte c.step-stand.result.1 c.step-stand.ensures c.saturating_add.ensures c.saturating_add-2.ensures
