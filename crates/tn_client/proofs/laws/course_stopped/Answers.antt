use Rattle.tn_client.proofs.lemmas.Stopping.{stopped}
use Rattle.tn_client.proofs.laws.course_stopped.Goals as goal

pub returns : goal.returns
returns c = stopped
