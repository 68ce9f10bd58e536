use Rattle.std.proofs.Common.{arith}
use Rattle.tn_cli.proofs.Watching.{plain}
use Rattle.tn_cli.proofs.unprinted.between.Goals as goal

pub returns-in_default : goal.returns-in_default
returns-in_default c = plain _ (omega arith) (omega arith)
