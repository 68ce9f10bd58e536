use Rattle.tn_server.proofs.lemmas.Courses as courses
use Rattle.tn_server.proofs.laws.texts_are_whole.Goals as goal

pub returns-clause-sent : goal.returns-clause-sent
returns-clause-sent c = λ h parts none few. (courses.parts_say h parts none few).0

pub returns-clause-none : goal.returns-clause-none
returns-clause-none c = λ h parts none few. (courses.parts_say h parts none few).1
