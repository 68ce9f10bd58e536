use Rattle.tn_theorems.proofs.of_sessions.Answers.{server_answers, client_answers}
use Rattle.tn_session.specs.{Facts.job_facts, Makers.begins}
use Rattle.tn_theorems.proofs.sessions.laws.no_answer_comes_late.Goals as goal

pub returns-clause-server : goal.returns-clause-server
returns-clause-server g c maker canon s = server_answers (job_facts
    (begins g.M.Job.Job.fresh g.M.Maker.gives maker) g.M.Job.Job.reacts g.M.Job.Job.steps g.M.Job.Job.refuses) canon s

pub returns-clause-client : goal.returns-clause-client
returns-clause-client g c limit d = client_answers limit d
