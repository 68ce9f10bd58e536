use Rattle.std.proofs.Common.{refl}
use Rattle.tn_discipline.proofs.reads.TextFromVecU8.from.Goals as goal

pub returns : goal.returns
returns c = refl
