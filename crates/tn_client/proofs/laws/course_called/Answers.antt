use Rattle.tn_client.proofs.lemmas.Courses.{called_at}
use Rattle.tn_client.proofs.laws.course_called.Goals as goal

pub returns : goal.returns
returns c = called_at
