use Rattle.std.proofs.Common.{arith}
use Rattle.tn_client.proofs.end.ClientEnd.item.Goals as goal

pub returns-in-Sub-clause-grows : goal.returns-in-Sub-clause-grows
returns-in-Sub-clause-grows c = grind (arith, c.subnegotiation.ensures.grows)
