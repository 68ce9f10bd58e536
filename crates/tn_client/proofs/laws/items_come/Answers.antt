use Rattle.tn_client.proofs.lemmas.Histories.{items-gets, keys-gets}
use Rattle.tn_client.proofs.laws.items_come.Goals as goal

pub returns-clause-items : goal.returns-clause-items
returns-clause-items c = items-gets

pub returns-clause-keys : goal.returns-clause-keys
returns-clause-keys c = keys-gets
