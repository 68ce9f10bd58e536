use Rattle.tn_client.proofs.lemmas.Standings.{stands, says_as, displays_as}
use Rattle.tn_client.proofs.laws.steps_stand.Goals as goal

pub returns-clause-leads : goal.returns-clause-leads
returns-clause-leads c = stands

pub returns-clause-said : goal.returns-clause-said
returns-clause-said c = says_as

pub returns-clause-shown : goal.returns-clause-shown
returns-clause-shown c = displays_as
