use Rattle.tn_net.proofs.lemmas.printing.Taking.{takes_both}
use Rattle.tn_net.proofs.printing.laws.taken_in_turn.Goals as goal

pub returns : goal.returns
returns c old middle new xs ys = takes_both old middle new xs ys
