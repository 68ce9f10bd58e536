use Rattle.tn_discipline.proofs.Acting.{erases_to}
use Rattle.tn_discipline.proofs.half_line.Line.erase.Goals as goal

pub returns-clause-advances : goal.returns-clause-advances
returns-clause-advances c = erases_to c.args.self.now c.erase_byte.new.self c.erase_byte.ensures.line
