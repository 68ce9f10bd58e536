use Rattle.tn_discipline.proofs.reads.VecU8FromText.from.Goals as goal

pub returns : goal.returns
returns c = c.text.view_is
