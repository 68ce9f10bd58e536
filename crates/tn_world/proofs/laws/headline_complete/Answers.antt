use Rattle.tn_world.proofs.Promise.{passes_complete, passes_half}
use Rattle.tn_world.proofs.laws.headline_complete.Goals as goal

pub returns-clause-entries : goal.returns-clause-entries
returns-clause-entries c = passes_complete

pub returns-clause-half : goal.returns-clause-half
returns-clause-half c = passes_half
