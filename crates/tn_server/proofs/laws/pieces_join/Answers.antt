use Rattle.tn_server.proofs.lemmas.Courses as courses
use Rattle.tn_server.proofs.laws.pieces_join.Goals as goal

pub returns : goal.returns
returns c = λ course p q h bytes. (courses.joined course p q h, courses.parted course p q h bytes)
