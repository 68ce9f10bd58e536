use Rattle.tn_server.proofs.lemmas.Leading.{stands, says_as}
use Rattle.tn_server.proofs.laws.steps_stand.Goals as goal

pub returns-clause-leads : goal.returns-clause-leads
returns-clause-leads c = stands

pub returns-clause-said : goal.returns-clause-said
returns-clause-said c = says_as
