-- The jobs of a session and their numbers.
use Rattle.std.specs.Prelude.{◌≡◌, ◌≢◌, ℕ, Some, None, List}
use Rattle.tn_jobs.specs.{Jobs.{Jobs, state_at}, declared.held_jobs.JobId.JobId}
use Rattle.tn_jobs.specs.declared.verdicts.JobState.TheVariants as job
use Rattle.tn_session.specs.{workers.{Stepping.IsIn, Turning.{IsQueue, ids_of}}, declared.making.Made.Made}

-- the first job is in the foreground, these others are in the background, and there are no more
pub record Numbered (jobs : Jobs) (first : JobId) (others : List ℕ) : Type 0 where
  pub foreground : state_at jobs first.0 ≡ Some job.Foreground
  pub background : (id : ℕ) → IsIn id others → state_at jobs id ≡ Some job.Background
  pub no_more : (id : ℕ) → id ≢ first.0 → (IsIn id others → ⊥) → state_at jobs id ≡ None

-- the jobs are fresh, and the table holds each under a number of its own
pub record IsMade {J : Type 0} (fresh : J → Type 0) (made : Made J) : Type 0 where
  pub numbered : Numbered made.table made.first (ids_of made.queue.items)
  pub queue : IsQueue fresh made.queue.items
  pub job : fresh made.job
