use Rattle.std.proofs.Common.{◌∙◌}
use Rattle.tn_server.proofs.end.ServerEnd.settings.Goals as goal

pub returns : goal.returns
returns c = rw (← c.self.view_is) (record { value = c.settings.ensures; stands = λ h leads. c.settings.ensures ∙ leads.settings })
