use Rattle.tn_cores.proofs.lemmas.server.Giving.{puts_are_front}
use Rattle.tn_cores.proofs.server.laws.entries_go_in_order.Goals as goal

pub returns : goal.returns
returns c = puts_are_front
