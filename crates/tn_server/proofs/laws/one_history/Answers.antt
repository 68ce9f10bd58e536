use Rattle.tn_server.proofs.lemmas.Courses as courses
use Rattle.tn_server.proofs.laws.one_history.Goals as goal

pub returns : goal.returns
returns c = courses.one_history
