use Rattle.std.proofs.Common.{◌++◌}
use Rattle.tn_client.specs.Course.{stream}
use Rattle.tn_client.proofs.lemmas.Courses.{joined, parted}
use Rattle.tn_client.proofs.laws.pieces_join.Goals as goal

pub returns : goal.returns
returns c = λ course p q h bytes. (joined course p q h, parted course p q h (c.one_reading.ensures.exists (stream course ++ p) bytes))
