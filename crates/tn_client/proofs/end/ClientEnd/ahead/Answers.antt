use Rattle.std.proofs.Common.{◌∙◌}
use Rattle.tn_client.proofs.end.ClientEnd.ahead.Goals as goal

pub returns : goal.returns
returns c = rw (← c.self.view_is) (record { value = c.ahead.ensures.value; stands = λ h leads. c.ahead.ensures.value ∙ leads.ahead })
