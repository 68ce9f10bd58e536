use Rattle.std.proofs.Common.{rules}
use Rattle.tn_discipline.proofs.Acting.{releases_to}
use Rattle.tn_discipline.proofs.half_line.Line.hand_on.Goals as goal

pub returns-clause-half : goal.returns-clause-half
returns-clause-half c = releases_to c.args.self.now _ (search rules)
