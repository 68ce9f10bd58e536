use Rattle.std.proofs.Common.{rules}
use Rattle.tn_discipline.proofs.Acting.{resumes_to}
use Rattle.tn_discipline.proofs.half_line.Line.resume.Goals as goal

pub returns-clause-half : goal.returns-clause-half
returns-clause-half c = resumes_to c.args.self.now _ c.args.ahead (search rules)
