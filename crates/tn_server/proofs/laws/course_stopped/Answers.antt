use Rattle.tn_server.proofs.lemmas.Stopping.{stopped}
use Rattle.tn_server.proofs.laws.course_stopped.Goals as goal

pub returns : goal.returns
returns c = stopped
