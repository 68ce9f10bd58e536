use Rattle.tn_server.proofs.lemmas.Courses as courses
use Rattle.tn_server.proofs.laws.course_called.Goals as goal

pub returns : goal.returns
returns c = courses.called_on
