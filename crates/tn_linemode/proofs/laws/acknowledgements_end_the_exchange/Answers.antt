use Rattle.tn_linemode.proofs.Announcing.{acknowledged_table, acknowledged_answers}
use Rattle.tn_linemode.proofs.laws.acknowledgements_end_the_exchange.Goals as goal

pub returns-clause-table : goal.returns-clause-table
returns-clause-table c = acknowledged_table

pub returns-clause-answers : goal.returns-clause-answers
returns-clause-answers c = acknowledged_answers
