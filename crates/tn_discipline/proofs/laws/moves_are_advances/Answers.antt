use Rattle.tn_discipline.proofs.lemmas.Forwards as forwards
use Rattle.tn_discipline.proofs.laws.moves_are_advances.Goals as goal

pub returns : goal.returns
returns c = record { moves = forwards.moves_of; advances = forwards.advances_of }
