use Rattle.tn_discipline.proofs.Acting.{advances_or, drops_or}
use Rattle.tn_discipline.proofs.half_line.Line.play.Goals as goal

pub returns-clause-advances : goal.returns-clause-advances
returns-clause-advances c = advances_or c.act.result c.args.self.now c.act.new.self c.args.role c.act.ensures.effect c.act.ensures.line

pub returns-clause-dropped : goal.returns-clause-dropped
returns-clause-dropped c = drops_or c.act.result c.args.self.now c.args.role c.act.ensures.effect
