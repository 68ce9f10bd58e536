use Rattle.tn_net.proofs.Sorting.{every}
use Rattle.tn_net.proofs.laws.every_byte_is_a_key.Goals as goal

pub returns : goal.returns
returns c bytes = every bytes
