use Rattle.tn_world.proofs.Showing.{shown_begins}
use Rattle.tn_world.proofs.laws.shown_first.Goals as goal

pub returns : goal.returns
returns c = λ w text output. shown_begins w text output
