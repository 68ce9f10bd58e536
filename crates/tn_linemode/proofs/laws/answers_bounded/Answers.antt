use Rattle.std.proofs.Common.{refl}
use Rattle.tn_linemode.specs.Exchange.{server_next, server_answer, client_next, client_answer, server_answers, client_answers, announcement}
use Rattle.tn_linemode.proofs.lemmas.Answering.{length-answers_along}
use Rattle.tn_linemode.proofs.laws.answers_bounded.Goals as goal

pub returns-clause-server : goal.returns-clause-server
unfolding server_answers
returns-clause-server c = length-answers_along server_next server_answer

pub returns-clause-client : goal.returns-clause-client
unfolding client_answers
returns-clause-client c = length-answers_along client_next client_answer

pub returns-clause-announcement : goal.returns-clause-announcement
unfolding announcement
returns-clause-announcement c = λ chars. refl
