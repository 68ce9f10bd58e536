use Rattle.std.proofs.Common.{◌∙◌, arith}
use Rattle.tn_discipline.proofs.role_table.Roles.role.Goals as goal

pub returns : goal.returns
returns c = rw (← c.self.view_is) (c.index.ensures ∙ c.self.invariant.0.agrees c.args.key c.index.result.now (omega arith))
