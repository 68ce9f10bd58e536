use Rattle.std.proofs.Common.{refl}
use Rattle.tn_pty.proofs.pty.Pair.pull_symbol.Goals as goal

pub returns-clause-first : goal.returns-clause-first
returns-clause-first c = rw (← c.self.view_is) c.pop.ensures.first

pub returns-clause-pair : goal.returns-clause-pair
returns-clause-pair c = rw (← c.self.view_is, c.pop.ensures.rest) refl
