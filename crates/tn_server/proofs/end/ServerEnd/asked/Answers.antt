use Rattle.std.proofs.Common.{ap, ◌∙◌}
use Rattle.tn_linemode.specs.Modes.{Modes}
use Rattle.tn_server.proofs.end.ServerEnd.asked.Goals as goal

pub returns : goal.returns
returns c = rw (← c.self.view_is) (λ h leads. c.mask.ensures.value ∙ c.asked.ensures ∙ ap (λ (m : Modes). m.asked) leads.modes)
