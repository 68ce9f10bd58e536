use Rattle.tn_client.proofs.lemmas.Courses.{fed_at, fed_said, fed_shown}
use Rattle.tn_client.proofs.laws.course_fed.Goals as goal

pub returns-clause-at : goal.returns-clause-at
returns-clause-at c = fed_at

pub returns-clause-said : goal.returns-clause-said
returns-clause-said c = fed_said

pub returns-clause-displayed : goal.returns-clause-displayed
returns-clause-displayed c = fed_shown
