use Rattle.std.proofs.Common.{refl}
use Rattle.tn_client.proofs.end.ClientEnd.send_held.Goals as goal

pub returns-clause-ok : goal.returns-clause-ok
returns-clause-ok c = rw (← c.self.view_is, c.hand_on.ensures.line) refl
