use Rattle.tn_theorems.proofs.of_programs.Programs.{theorem_of_programs}
use Rattle.tn_session.specs.{Facts.job_facts, Makers.begins}
use Rattle.tn_theorems.proofs.programs.laws.what_you_type_over_a_connection_is_read.Goals as goal

pub returns : goal.returns
returns g c maker = theorem_of_programs (job_facts
    (begins g.M.Job.Job.fresh g.M.Maker.gives maker) g.M.Job.Job.reacts g.M.Job.Job.steps g.M.Job.Job.refuses)
    (c.what_you_type_is_what_the_job_reads.ensures.typed maker)
