use Rattle.std.proofs.Common.{◌∙◌}
use Rattle.tn_client.proofs.end.ClientEnd.chars.Goals as goal

pub returns : goal.returns
returns c = rw (← c.self.view_is) (record { value = c.chars.ensures; stands = λ h leads. c.chars.ensures ∙ leads.table })
