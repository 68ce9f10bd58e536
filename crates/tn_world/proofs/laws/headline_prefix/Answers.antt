use Rattle.tn_world.proofs.Promise.{passes_prefix}
use Rattle.tn_world.proofs.laws.headline_prefix.Goals as goal

pub returns : goal.returns
returns c = passes_prefix
