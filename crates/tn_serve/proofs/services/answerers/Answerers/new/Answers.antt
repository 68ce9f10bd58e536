use Rattle.std.proofs.Common.{refl}
use Rattle.tn_serve.proofs.services.answerers.Answerers.new.Goals as goal

pub returns-clause-ticks : goal.returns-clause-ticks
returns-clause-ticks c = refl
