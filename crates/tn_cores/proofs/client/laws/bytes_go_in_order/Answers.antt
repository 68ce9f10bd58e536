use Rattle.tn_cores.proofs.lemmas.client.Bringing.{in_order}
use Rattle.tn_cores.proofs.client.laws.bytes_go_in_order.Goals as goal

pub returns : goal.returns
returns c = in_order
