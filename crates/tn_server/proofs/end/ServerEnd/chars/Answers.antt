use Rattle.std.proofs.Common.{◌∙◌}
use Rattle.tn_server.proofs.end.ServerEnd.chars.Goals as goal

pub returns : goal.returns
returns c = rw (← c.self.view_is) (λ h leads. c.chars.ensures ∙ leads.table)
