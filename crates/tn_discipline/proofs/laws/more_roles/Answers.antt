use Rattle.tn_discipline.proofs.lemmas.Histories as histories
use Rattle.tn_discipline.proofs.laws.more_roles.Goals as goal

pub returns : goal.returns
returns c = record { half = histories.half-all; entries = histories.entries-all }
