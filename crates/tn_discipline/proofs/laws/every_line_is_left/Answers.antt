use Rattle.tn_discipline.proofs.lemmas.Reached as reached
use Rattle.tn_discipline.proofs.laws.every_line_is_left.Goals as goal

pub returns : goal.returns
returns c = reached.every_line_is_left
