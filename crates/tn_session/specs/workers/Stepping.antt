-- The messages of the thread of the background jobs.
use Rattle.std.specs.Prelude.{◌≡◌, ℕ, ◌==◌, Bool, true, IsTrue, false, Option, Some, None, List, [], ◌∷◌}
use Rattle.std.specs.{Prelude.{◌++◌, ◌⊎◌, map, if◌then◌else◌}, List.FoldsTo}
use Rattle.tn_jobs.specs.{Judging.judged, declared.{held_jobs.JobId.JobId, reactions.Reaction.Reaction}}
use Rattle.tn_jobs.specs.declared.verdicts.{JobState.JobState, Verdict.Verdict}
use Rattle.tn_jobs.specs.declared.verdicts.JobState.TheVariants as job
use Rattle.tn_session.specs.declared.workers.{mail.Sender.TheVariants.Back, channels.View.View}
use Rattle.tn_session.specs.workers.{Acts.JobActs, Mailbox.{mail, sender}}
use Rattle.tn_cores.specs.{server.Run.has_text, declared.messages.Message.Message}
use Rattle.tn_cores.specs.declared.messages.Message.TheVariants.{Said, Refused, Left}

-- a job's number, and what it did
abbrev pub step_said : JobId × Reaction → Message
step_said s = Said s.0 s.1.text s.1.after

-- the reactions of the job of this number, in order
abbrev pub reactions_of : ℕ → List (JobId × Reaction) → List Reaction
reactions_of id [] = []
reactions_of id (s ∷ ss) = if s.0.0 == id then s.1 ∷ reactions_of id ss else reactions_of id ss

-- there are states of the job of this number, the first as it began, through which each of its steps goes
abbrev pub Steps : {J : Type 0} → (ℕ → J → Type 0) → (J → Reaction → J → Type 0) → List (JobId × Reaction) → ℕ
    → Type 0
Steps {J} began steps said id =
    (first : J) × (last : J) × began id first × FoldsTo steps first (reactions_of id said) last

-- the number is among these
abbrev pub IsIn : ℕ → List ℕ → Type 0
IsIn id [] = ⊥
IsIn id (other ∷ ids) = (id ≡ other) ⊎ IsIn id ids

-- each step is one of these jobs'
abbrev pub AreBy : List ℕ → List (JobId × Reaction) → Type 0
AreBy ids [] = Unit {0}
AreBy ids (s ∷ ss) = IsIn s.0.0 ids × AreBy ids ss

-- the job is in the background
abbrev pub is_background : JobState → Bool
is_background job.Background = true
is_background job.Foreground = false
is_background (job.Stopped why) = false
is_background job.Ended = false

-- the verdict leaves the job in the background
abbrev pub leaves_in_background : Option Verdict → Bool
leaves_in_background None = false
leaves_in_background (Some v) = is_background v.next

-- a job that runs in the background still does after this reaction
abbrev pub stays : Bool → Reaction → Bool
stays tostop r = leaves_in_background (judged job.Background (has_text r.text) r.after tostop)

-- none of a job's steps but the last may take it out of the background: it makes none after that
abbrev pub LeavesLast : Bool → List Reaction → Type 0
LeavesLast tostop [] = Unit {0}
LeavesLast tostop (r ∷ []) = Unit {0}
LeavesLast tostop (r ∷ next ∷ rs) = IsTrue (stays tostop r) × LeavesLast tostop (next ∷ rs)

-- the background jobs by their numbers, and whether a text stops one (the flag TOSTOP of the terminal)
pub record BackJobs : Type 0 where
  pub ids : List ℕ
  pub tostop : Bool

-- the first one goes, and comes last if it stays in the background
abbrev pub turned : Bool → ℕ → List ℕ → List ℕ
turned true id ids = ids ++ id ∷ []
turned false id ids = ids

-- the first job of the queue made this step, which leads to the new queue
abbrev pub TakesItsTurn : Bool → List ℕ → JobId × Reaction → List ℕ → Type 0
TakesItsTurn tostop [] s new = ⊥
TakesItsTurn tostop (id ∷ ids) s new = (s.0.0 ≡ id) × (new ≡ turned (stays tostop s.1) id ids)

-- the jobs of these numbers step in turn, and then these are left
abbrev pub StepInTurn : Bool → List ℕ → List (JobId × Reaction) → List ℕ → Type 0
StepInTurn tostop ids said left = FoldsTo (TakesItsTurn tostop) ids said left

-- memory ran out for the job of this number, in the state to which its steps had led it
abbrev pub IsRefused : {J : Type 0} → (ℕ → J → Type 0) → JobActs J → List (JobId × Reaction) → ℕ → Type 0
IsRefused {J} began acts said id =
    (first : J) × (last : J) × began id first × FoldsTo acts.steps first (reactions_of id said) last
    × acts.refuses last None

-- why it left: no job runs any more; or it was asked to stop, or memory ran out for the one whose turn it was
abbrev pub LeavesFor : {J : Type 0} → (ℕ → J → Type 0) → JobActs J → Bool → List (JobId × Reaction)
    → List Message
    → List ℕ → Type 0
LeavesFor began acts stopped said close [] = close ≡ Left ∷ []
LeavesFor {J} began acts stopped said close (id ∷ ids) =
    ((close ≡ Left ∷ []) × IsTrue stopped)
    ⊎ ((close ≡ Refused ∷ Left ∷ []) × IsRefused {J = J} began acts said id)

-- the steps of these jobs: each step is one of theirs, those of each go through its states, no job makes one
-- after it was judged out of the background, they step in turn, and then comes the close, for its cause
abbrev pub AreSteps : {J : Type 0} → (ℕ → J → Type 0) → JobActs J → BackJobs → Bool → View → Type 0
AreSteps {J} began acts jobs stopped v =
    (said : List (JobId × Reaction)) × (close : List Message)
    × (v ≡ sender Back (map (mail Back) (map step_said said ++ close)))
    × AreBy jobs.ids said × ((id : ℕ) → IsIn id jobs.ids → Steps {J = J} began acts.steps said id)
    × ((id : ℕ) → IsIn id jobs.ids → LeavesLast jobs.tostop (reactions_of id said))
    × (left : List ℕ) × StepInTurn jobs.tostop jobs.ids said left
    × LeavesFor {J = J} began acts stopped said close left
