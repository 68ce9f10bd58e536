use Rattle.tn_discipline.proofs.line_limit.Limit.bytes.Goals as goal

pub returns-clause-value : goal.returns-clause-value
returns-clause-value c = c.self.view_is
