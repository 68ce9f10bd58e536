use Rattle.tn_linemode.specs.Exchange.{announcement, client_answers}
use Rattle.tn_linemode.proofs.Announcing.{announced, announced_acks, acknowledged_table, acknowledged_answers}
use Rattle.tn_linemode.proofs.laws.announced_tables_agree.Goals as goal

pub returns-clause-client : goal.returns-clause-client
returns-clause-client c = announced

pub returns-clause-server : goal.returns-clause-server
returns-clause-server c = λ c s allowed. acknowledged_table s (client_answers c (announcement s)) (announced_acks c s allowed)

pub returns-clause-silence : goal.returns-clause-silence
returns-clause-silence c = λ c s allowed. acknowledged_answers s (client_answers c (announcement s)) (announced_acks c s allowed)
