use Rattle.std.proofs.Common.{arith}
use Rattle.tn_discipline.proofs.role_table.Roles.new.Goals as goal

pub invariant_of-result : goal.invariant_of-result
invariant_of-result c = (c.fill.ensures.agrees, omega (arith, c.fill.ensures.capacity, c.in_ok-table.ensures.capacity))
