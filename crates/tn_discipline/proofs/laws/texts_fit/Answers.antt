use Rattle.tn_discipline.proofs.lemmas.Texts.{texts_fit}
use Rattle.tn_discipline.proofs.laws.texts_fit.Goals as goal

pub returns : goal.returns
returns c = texts_fit
