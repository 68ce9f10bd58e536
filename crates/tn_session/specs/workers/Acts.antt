-- The changes of jobs of one type, and when memory may run out for one.
use Rattle.std.specs.Prelude.{Option}
use Rattle.tn_discipline.specs.declared.reads.Entry.{Entry}
use Rattle.tn_jobs.specs.declared.reactions.Reaction.{Reaction}

-- at an entry, and at a step of its own
pub record JobActs (J : Type 0) : Type 1 where
  pub reacts : J → Entry → Reaction → J → Type 0
  pub steps : J → Reaction → J → Type 0
  pub refuses : J → Option Entry → Type 0

-- the acts of jobs, by these relations
abbrev pub job_acts : {J : Type 0} → (J → Entry → Reaction → J → Type 0) → (J → Reaction → J → Type 0)
    → (J → Option Entry → Type 0) → JobActs J
job_acts reacts steps refuses = record { reacts = reacts; steps = steps; refuses = refuses }
