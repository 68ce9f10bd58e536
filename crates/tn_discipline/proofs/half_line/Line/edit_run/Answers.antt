use Rattle.std.proofs.Common.{take}
use Rattle.tn_discipline.proofs.lemmas.Editing.{quiet_advance}
use Rattle.tn_discipline.proofs.half_line.Line.edit_run.Goals as goal

pub returns-clause-advances : goal.returns-clause-advances
returns-clause-advances c =
    quiet_advance c.args.roles.now (take c.edit_some.result c.args.keys.now) c.args.self.now c.edit_some.new.self c.edit_some.ensures.quiet
    c.edit_some.ensures.line
