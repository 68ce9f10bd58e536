use Rattle.tn_server.proofs.lemmas.Fitting.{replies-fit}
use Rattle.tn_server.proofs.laws.replies_fit.Goals as goal

pub returns : goal.returns
returns c = replies-fit
