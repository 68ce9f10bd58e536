use Rattle.tn_net.proofs.Sorting.{taken}
use Rattle.tn_net.proofs.laws.one_by_one.Goals as goal

pub returns : goal.returns
returns c old new bytes made is = taken old new bytes made is
