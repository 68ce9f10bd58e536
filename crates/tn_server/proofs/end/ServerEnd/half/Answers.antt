use Rattle.std.proofs.Common.{ap, ◌∙◌}
use Rattle.tn_discipline.specs.HalfLine.{HalfLine}
use Rattle.tn_server.proofs.lemmas.Ends.{line_is}
use Rattle.tn_server.proofs.end.ServerEnd.half.Goals as goal

pub returns : goal.returns
returns c = rw (← c.self.view_is) (λ h leads. c.half.ensures ∙ ap (λ (l : HalfLine). l.held) (line_is h _ leads))
