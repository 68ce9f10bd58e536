use Rattle.tn_server.proofs.lemmas.Leading.{stands_fed, says_all}
use Rattle.tn_server.proofs.laws.pieces_stand.Goals as goal

pub returns-clause-leads : goal.returns-clause-leads
returns-clause-leads c = stands_fed

pub returns-clause-said : goal.returns-clause-said
returns-clause-said c = says_all
