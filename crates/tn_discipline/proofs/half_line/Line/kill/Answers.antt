use Rattle.std.proofs.Common.{rules, refl}
use Rattle.tn_discipline.proofs.Acting.{kills_to}
use Rattle.tn_discipline.proofs.half_line.Line.kill.Goals as goal

pub returns-clause-advances : goal.returns-clause-advances
returns-clause-advances c = kills_to c.args.self.now _ (search rules)

pub returns-clause-effect : goal.returns-clause-effect
returns-clause-effect c = rw (← c.self.view_is) refl
