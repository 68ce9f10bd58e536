-- The background jobs that run, in a queue.
use Rattle.std.specs.Prelude.{◌≡◌, ℕ, Bool, true, IsTrue, false, None, List, [], ◌∷◌, ◌++◌, ◌⊎◌}
use Rattle.std.specs.List.{FoldsTo}
use Rattle.tn_jobs.specs.declared.{held_jobs.JobId.JobId, reactions.Reaction.Reaction}
use Rattle.tn_session.specs.{workers.Acts.JobActs, declared.workers.back.{Runner.Runner, Turn.Turn}}
use Rattle.tn_session.specs.declared.workers.back.Turn.TheVariants.{Idle, Refused, Did}
use Rattle.tn_session.specs.workers.Stepping.{IsIn, AreBy, Steps, BackJobs, LeavesLast, reactions_of, stays}

-- the numbers of these jobs
abbrev pub ids_of : {J : Type 0} → List (Runner J) → List ℕ
ids_of [] = []
ids_of (r ∷ rs) = r.id.0 ∷ ids_of rs

-- the jobs of this queue
abbrev pub jobs_of : {J : Type 0} → List (Runner J) → List J
jobs_of [] = []
jobs_of (r ∷ rs) = r.job ∷ jobs_of rs

-- the queue holds this job under this number
abbrev pub Holds : {J : Type 0} → List (Runner J) → ℕ → J → Type 0
Holds [] id job = ⊥
Holds (r ∷ rs) id job = ((id ≡ r.id.0) × (job ≡ r.job)) ⊎ Holds rs id job

-- the queue as the thread's promise has it
abbrev pub queue_of : {J : Type 0} → Bool → List (Runner J) → BackJobs
queue_of tostop queue = record { ids = ids_of queue; tostop = tostop }

-- no two of these numbers are equal
abbrev pub AreApart : List ℕ → Type 0
AreApart [] = Unit {0}
AreApart (id ∷ ids) = (IsIn id ids → ⊥) × AreApart ids

-- each of these jobs has done nothing yet
abbrev pub EachFresh : {J : Type 0} → (J → Type 0) → List (Runner J) → Type 0
EachFresh fresh [] = Unit {0}
EachFresh fresh (r ∷ rs) = fresh r.job × EachFresh fresh rs

-- each job is fresh, and no two have one number
abbrev pub IsQueue : {J : Type 0} → (J → Type 0) → List (Runner J) → Type 0
IsQueue fresh queue = EachFresh fresh queue × AreApart (ids_of queue)

-- each job began as it is
abbrev pub EachBegan : {J : Type 0} → (ℕ → J → Type 0) → List (Runner J) → Type 0
EachBegan began [] = Unit {0}
EachBegan began (r ∷ rs) = began r.id.0 r.job × EachBegan began rs

-- the job of this number has gone from its first state to this one
abbrev pub Chain : {J : Type 0} → (ℕ → J → Type 0) → (J → Reaction → J → Type 0) → List (JobId × Reaction) → ℕ
    → J
    → Type 0
Chain {J} began steps said id job = (first : J) × began id first
    × FoldsTo steps first (reactions_of id said) job

-- each job of the queue has gone, by its steps, from its first state to its present one
abbrev pub EachRuns : {J : Type 0} → (ℕ → J → Type 0) → (J → Reaction → J → Type 0) → List ℕ
    → List (JobId × Reaction) → List (Runner J) → Type 0
EachRuns began steps ids said [] = Unit {0}
EachRuns began steps ids said (r ∷ rs) =
    IsIn r.id.0 ids × Chain began steps said r.id.0 r.job × EachRuns began steps ids said rs

-- all of them left the job in the background
abbrev pub AllStay : Bool → List Reaction → Type 0
AllStay tostop [] = Unit {0}
AllStay tostop (r ∷ rs) = IsTrue (stays tostop r) × AllStay tostop rs

-- each job that is still in the queue has stayed in the background by its steps
abbrev pub EachStays : {J : Type 0} → Bool → List (JobId × Reaction) → List (Runner J) → Type 0
EachStays tostop said [] = Unit {0}
EachStays tostop said (r ∷ rs) = AllStay tostop (reactions_of r.id.0 said) × EachStays tostop said rs

-- The queue after these steps: each job in it is where its steps led it, and each that is not has left.
pub record Running {J : Type 0} (began : ℕ → J → Type 0) (steps : J → Reaction → J → Type 0) (tostop : Bool)
    (ids : List ℕ) (said : List (JobId × Reaction)) (queue : List (Runner J)) : Type 0 where
  pub by : AreBy ids said
  pub leave : (id : ℕ) → IsIn id ids → LeavesLast tostop (reactions_of id said)
  pub stay : EachStays tostop said queue
  pub each : (id : ℕ) → IsIn id ids → Steps {J = J} began steps said id
  pub runs : EachRuns began steps ids said queue
  pub apart : AreApart (ids_of queue)

-- The job that made a step stands last as long as it runs in the background; one that was judged out of it
-- stands in the queue no more.
abbrev pub standing : {J : Type 0} → Bool → List (Runner J) → Runner J → List (Runner J)
standing true rest runner = rest ++ runner ∷ []
standing false rest runner = rest

-- The first of the queue made a step.
pub record AdvancesQueue {J : Type 0} (steps : J → Reaction → J → Type 0) (tostop : Bool)
    (old : List (Runner J)) (id : JobId) (reaction : Reaction) (new : List (Runner J)) : Type 0 where
  pub runner : Runner J
  pub rest : List (Runner J)
  pub job : J
  pub was : old ≡ runner ∷ rest
  pub number : id ≡ runner.id
  pub step : steps runner.job reaction job
  pub left : new ≡ standing (stays tostop reaction) rest (record { id = id; job = job })

-- no job makes a step only if none runs; memory runs out for the first
abbrev pub TakesTurn : {J : Type 0} → JobActs J → Bool → List (Runner J) → Turn → List (Runner J) → Type 0
TakesTurn acts tostop old Idle new = old ≡ []
TakesTurn {J} acts tostop old Refused new = (runner : Runner J) × (old ≡ runner ∷ new)
    × acts.refuses runner.job None
TakesTurn acts tostop old (Did id reaction) new = AdvancesQueue acts.steps tostop old id reaction new
