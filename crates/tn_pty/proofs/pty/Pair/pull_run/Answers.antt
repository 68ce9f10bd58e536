use Rattle.std.proofs.Common.{refl}
use Rattle.tn_pty.proofs.pty.Pair.pull_run.Goals as goal

pub returns-clause-count : goal.returns-clause-count
returns-clause-count c = rw (← c.self.view_is) c.pull_run.ensures.count

pub returns-clause-out : goal.returns-clause-out
returns-clause-out c = rw (← c.self.view_is) c.pull_run.ensures.items

pub returns-clause-pair : goal.returns-clause-pair
returns-clause-pair c = rw (← c.self.view_is, c.pull_run.ensures.queue) refl
