use Rattle.tn_client.proofs.lemmas.Standings.{stands_fed, says_all, shows_all}
use Rattle.tn_client.proofs.laws.pieces_stand.Goals as goal

pub returns-clause-leads : goal.returns-clause-leads
returns-clause-leads c = stands_fed

pub returns-clause-said : goal.returns-clause-said
returns-clause-said c = says_all

pub returns-clause-shown : goal.returns-clause-shown
returns-clause-shown c = shows_all
