use Rattle.tn_world.proofs.Promise.{related}
use Rattle.tn_world.proofs.laws.relation_kept.Goals as goal

pub returns : goal.returns
returns c = related
