use Rattle.std.proofs.Common.{ap, ◌∙◌}
use Rattle.tn_discipline.specs.HalfLine.{HalfLine}
use Rattle.tn_client.proofs.lemmas.Ends.{line_is}
use Rattle.tn_client.proofs.end.ClientEnd.half.Goals as goal

pub returns : goal.returns
returns c =
    let value = c.held.ensures.value in
    rw (← c.self.view_is) (record { value = value; stands = λ h leads. value ∙ ap (λ (l : HalfLine). l.held) (line_is h _ leads) })
