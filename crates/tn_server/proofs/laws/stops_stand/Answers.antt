use Rattle.tn_server.proofs.lemmas.{Causes.causes, Stopping.stands_stopped}
use Rattle.tn_server.proofs.laws.stops_stand.Goals as goal

pub returns-clause-leads : goal.returns-clause-leads
returns-clause-leads c = stands_stopped

pub returns-clause-cause : goal.returns-clause-cause
returns-clause-cause c = causes
