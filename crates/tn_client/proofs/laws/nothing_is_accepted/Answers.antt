use Rattle.tn_client.proofs.lemmas.Courses.{never_refused}
use Rattle.tn_client.proofs.laws.nothing_is_accepted.Goals as goal

pub returns : goal.returns
returns c = never_refused
