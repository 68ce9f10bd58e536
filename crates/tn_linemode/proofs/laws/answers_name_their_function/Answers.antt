use Rattle.tn_linemode.proofs.Offers.{server_answer-answers, client_answer-answers}
use Rattle.tn_linemode.proofs.laws.answers_name_their_function.Goals as goal

pub returns-clause-server : goal.returns-clause-server
returns-clause-server c = server_answer-answers

pub returns-clause-client : goal.returns-clause-client
returns-clause-client c = client_answer-answers
