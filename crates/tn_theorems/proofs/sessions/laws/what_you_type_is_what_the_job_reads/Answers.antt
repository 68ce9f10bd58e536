use Rattle.tn_theorems.proofs.of_sessions.Seen.{reads_what_is_given, theorem_of_sessions}
use Rattle.tn_session.specs.{Facts.job_facts, Makers.begins}
use Rattle.tn_theorems.proofs.sessions.laws.what_you_type_is_what_the_job_reads.Goals as goal

pub returns-clause-typed : goal.returns-clause-typed
returns-clause-typed g c maker = theorem_of_sessions (job_facts
    (begins g.M.Job.Job.fresh g.M.Maker.gives maker) g.M.Job.Job.reacts g.M.Job.Job.steps g.M.Job.Job.refuses)

pub returns-clause-given : goal.returns-clause-given
returns-clause-given g c maker = reads_what_is_given (job_facts
    (begins g.M.Job.Job.fresh g.M.Maker.gives maker) g.M.Job.Job.reacts g.M.Job.Job.steps g.M.Job.Job.refuses)
