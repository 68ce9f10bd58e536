use Rattle.std.proofs.Common.{arith}
use Rattle.tn_discipline.proofs.role_table.Roles.set.Goals as goal

pub invariant_of-self : goal.invariant_of-self
invariant_of-self c = (c.fill.ensures.agrees, omega (arith, c.fill.ensures.capacity, c.self.invariant.1))
