use Rattle.tn_linemode.proofs.Ending.{unanswered_by_server, unanswered_by_client, changes_nothing, asks_for_none, repeating_ends}
use Rattle.tn_linemode.proofs.laws.exchanges_end.Goals as goal

pub returns-clause-answers : goal.returns-clause-answers
returns-clause-answers c = unanswered_by_server

pub returns-clause-table : goal.returns-clause-table
returns-clause-table c = changes_nothing

pub returns-clause-asks : goal.returns-clause-asks
returns-clause-asks c = asks_for_none

pub returns-clause-sent_back : goal.returns-clause-sent_back
returns-clause-sent_back c = unanswered_by_client

pub returns-clause-repeated : goal.returns-clause-repeated
returns-clause-repeated c = λ chars ts n allowed few. repeating_ends chars ts n c.tables_stay_allowed.ensures.server allowed few
