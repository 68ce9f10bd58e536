use Rattle.tn_world.proofs.Showing.{output_grows}
use Rattle.tn_world.proofs.laws.output.Goals as goal

pub returns : goal.returns
returns c = λ old new e text sound runs does output. output_grows old new e text sound runs does output
