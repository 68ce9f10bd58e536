use Rattle.tn_server.proofs.lemmas.Courses as courses
use Rattle.tn_server.proofs.laws.course_fed.Goals as goal

pub returns-clause-at : goal.returns-clause-at
returns-clause-at c = courses.fed_on

pub returns-clause-said : goal.returns-clause-said
returns-clause-said c = courses.fed_says
