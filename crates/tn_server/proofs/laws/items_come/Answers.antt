use Rattle.tn_server.proofs.lemmas.Histories.{items-gets, opening-gets}
use Rattle.tn_server.proofs.laws.items_come.Goals as goal

pub returns-clause-items : goal.returns-clause-items
returns-clause-items c = items-gets

pub returns-clause-settings : goal.returns-clause-settings
returns-clause-settings c = opening-gets
