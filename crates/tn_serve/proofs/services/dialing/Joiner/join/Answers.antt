use Rattle.std.proofs.Common.{◌+◌, Option, ap₂}
use Rattle.tn_serve.specs.services.Joining.{count}
use Rattle.tn_serve.proofs.services.dialing.Joiner.join.Goals as goal

pub returns-clause-both : goal.returns-clause-both
returns-clause-both g c = ap₂ (λ w r. count w + count r) c.new-5.ensures.writer c.new-5.ensures.reader

pub returns-clause-lines : goal.returns-clause-lines
returns-clause-lines g c = c.new-5.ensures.lines
