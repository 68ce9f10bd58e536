-- The jobs that a terminal holds: at each number the state of its job, or nothing.
use Rattle.std.specs.Prelude.{◌≡◌, ◌≢◌, ◌≤◌, ◌+◌, ℕ, Bool, true, false, Option, Some, None, List, is_some}
use Rattle.std.specs.{Prelude.{count_by, slice_index_or, slice_set, if◌then◌else◌, ◌↔◌, ◌==◌}, List.list_any}
use Rattle.tn_jobs.specs.declared.{verdicts.JobState.JobState, held_jobs.JobFault.JobFault}
use Rattle.tn_jobs.specs.declared.verdicts.JobState.TheVariants.{Foreground, Background, Stopped, Ended}
use Rattle.tn_jobs.specs.declared.held_jobs.JobFault.TheVariants.{NoSuchJob, WrongState, Full, Memory}

-- the jobs by their numbers, each with its state, if it is held
abbrev pub Jobs : Type 0
Jobs = List (Option JobState)

-- the state of a number's job, if the number is held
abbrev pub state_at : Jobs → ℕ → Option JobState
state_at jobs id = slice_index_or jobs id None

-- the number of numbers that are held
abbrev pub held_count : Jobs → ℕ
held_count jobs = count_by is_some jobs

-- the jobs with one number changed
abbrev pub with_state : Jobs → ℕ → Option JobState → Jobs
with_state jobs id state = slice_set jobs id state

-- the job is in the foreground
abbrev pub is_foreground : Option JobState → Bool
is_foreground None = false
is_foreground (Some Foreground) = true
is_foreground (Some Background) = false
is_foreground (Some (Stopped why)) = false
is_foreground (Some Ended) = false

-- some job is in the foreground
abbrev pub has_foreground : Jobs → Bool
has_foreground jobs = list_any is_foreground jobs

-- at most one job is in the foreground, at most sixteen are held, and none is Ended
pub record IsTable (jobs : Jobs) : Type 0 where
  pub one_foreground : (a b : ℕ) → state_at jobs a ≡ Some Foreground → state_at jobs b ≡ Some Foreground
      → a ≡ b
  pub at_most_sixteen : held_count jobs ≤ 16
  pub none_ended : (id : ℕ) → state_at jobs id ≢ Some Ended

-- this is the number of the foreground job, or there is none
abbrev pub NamesForeground : Jobs → Option ℕ → Type 0
NamesForeground jobs foreground = (id : ℕ) → (foreground ≡ Some id) ↔ (state_at jobs id ≡ Some Foreground)

-- this is the number, if there is one
abbrev pub is_number : Option ℕ → ℕ → Bool
is_number None id = false
is_number (Some number) id = number == id

-- the number of the foreground job once this number has this state
abbrev pub foreground_after : Option ℕ → ℕ → Option JobState → Option ℕ
foreground_after foreground id state =
    if is_foreground state then Some id else (if is_number foreground id then None else foreground)

-- the new table has this number too, which was free, with its job in the background
pub record Adds (old new : Jobs) (id : ℕ) : Type 0 where
  pub was_free : state_at old id ≡ None
  pub added : state_at new id ≡ Some Background
  pub others : (other : ℕ) → other ≢ id → state_at new other ≡ state_at old other
  pub held_more : held_count new ≡ held_count old + 1

-- why no job can be added, if none can
abbrev pub add_fault : Jobs → JobFault
add_fault jobs = if held_count jobs == 16 then Full else Memory

-- the fault of a job in the wrong state
abbrev pub wrong_if : Bool → Option JobFault
wrong_if true = Some WrongState
wrong_if false = None

-- the job is in the background
abbrev pub is_background : JobState → Bool
is_background Foreground = false
is_background Background = true
is_background (Stopped why) = false
is_background Ended = false

-- the job is stopped
abbrev pub is_stopped : JobState → Bool
is_stopped Foreground = false
is_stopped Background = false
is_stopped (Stopped why) = true
is_stopped Ended = false

-- why a job cannot be moved: its number is not held, or its state forbids it
abbrev pub fault_by : (JobState → Bool) → Option JobState → Option JobFault
fault_by wrong None = Some NoSuchJob
fault_by wrong (Some state) = wrong_if (wrong state)

-- no job can come to the foreground while one is there, be it this one
abbrev pub foreground_fault : Jobs → ℕ → Option JobFault
foreground_fault jobs id = fault_by (λ _. has_foreground jobs) (state_at jobs id)

-- why this job cannot go on in the background, if it cannot
abbrev pub background_fault : Jobs → ℕ → Option JobFault
background_fault jobs id = fault_by is_background (state_at jobs id)

-- why this job cannot be stopped, if it cannot
abbrev pub stopped_fault : Jobs → ℕ → Option JobFault
stopped_fault jobs id = fault_by is_stopped (state_at jobs id)

-- why this job cannot be taken out, if it cannot
abbrev pub done_fault : Jobs → ℕ → Option JobFault
done_fault jobs id = fault_by (λ _. false) (state_at jobs id)
