use Rattle.tn_discipline.proofs.lemmas.Histories as histories
use Rattle.tn_discipline.proofs.laws.one_more_role.Goals as goal

pub returns : goal.returns
returns c = record { half = histories.half-next; entries = histories.entries-next }
