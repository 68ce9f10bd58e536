use Rattle.tn_world.proofs.Settled.{settled_entries, settled_half}
use Rattle.tn_world.proofs.laws.what_is_typed_is_read.Goals as goal

pub returns-clause-entries : goal.returns-clause-entries
returns-clause-entries c = λ canon w s. settled_entries c.exchanges_end.ensures.answers c.exchanges_end.ensures.asks canon w s

pub returns-clause-half : goal.returns-clause-half
returns-clause-half c = λ canon w s. settled_half c.exchanges_end.ensures.answers c.exchanges_end.ensures.asks canon w s
