use Rattle.tn_discipline.proofs.lemmas.Lines as lines
use Rattle.tn_discipline.proofs.laws.each_role_advances.Goals as goal

pub returns : goal.returns
returns c = record { advances = lines.advances; dropped = lines.drops_exactly }
