use Rattle.std.proofs.Common.{refl}
use Rattle.tn_cli.proofs.Watching.{leaves}
use Rattle.tn_cli.proofs.unprinted.Watch.unprinted.Goals as goal

pub returns : goal.returns
returns c = leaves c.args.self.now _ refl c.left.ensures
