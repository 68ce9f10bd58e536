use Rattle.std.proofs.Common.{◌∙◌}
use Rattle.tn_client.proofs.end.ClientEnd.mode.Goals as goal

pub returns : goal.returns
returns c =
    let value = c.mask.ensures.value ∙ c.current.ensures in
    rw (← c.self.view_is) (record { value = value; stands = λ h leads. value ∙ leads.mode })
