use Rattle.tn_world.proofs.Promise.{quiet_always}
use Rattle.tn_world.proofs.laws.quiet_lists.Goals as goal

pub returns : goal.returns
returns c = quiet_always
