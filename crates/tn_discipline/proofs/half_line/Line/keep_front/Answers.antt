use Rattle.std.proofs.Common.{arith}
use Rattle.tn_discipline.proofs.half_line.Line.keep_front.Goals as goal

pub returns-clause-count : goal.returns-clause-count
returns-clause-count c =
    rw (← c.self.view_is)
    (omega (arith, c.min-count.ensures, c.from-max_counted.ensures, c.bytes.ensures.value, c.len.ensures, c.self.inside.held.ok.0))
