use Rattle.tn_net.proofs.of_printing.Alone.{one_state}
use Rattle.tn_net.proofs.printing.laws.one_state.Goals as goal

pub returns : goal.returns
returns c old new other items few = one_state old new other items few
