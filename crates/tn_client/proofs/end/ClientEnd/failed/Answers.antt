use Rattle.std.proofs.Common.{refl}
use Rattle.tn_client.proofs.end.ClientEnd.failed.Goals as goal

pub returns : goal.returns
returns c = rw (← c.self.view_is) refl
