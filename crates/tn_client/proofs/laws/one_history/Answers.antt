use Rattle.tn_client.proofs.lemmas.Courses.{one_history}
use Rattle.tn_client.proofs.laws.one_history.Goals as goal

pub returns : goal.returns
returns c = one_history
