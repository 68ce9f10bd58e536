use Rattle.std.proofs.Common.{refl}
use Rattle.tn_pty.proofs.pty.Pair.close.Goals as goal

pub returns-clause-pair : goal.returns-clause-pair
returns-clause-pair c = rw (← c.self.view_is) refl
