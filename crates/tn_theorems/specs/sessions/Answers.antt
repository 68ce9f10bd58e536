-- The moment by which answers are written.
use Rattle.std.specs.{Prelude.{◌≡◌, ◌⊎◌, ℕ, None, Some, List, [], ◌∷◌, ◌++◌, length, map}, List.FoldsTo}
use Rattle.tn_cores.specs.client.Marks as core
use Rattle.tn_cores.specs.client.Run as core_run
use Rattle.tn_discipline.specs.Canon.{Canon}
use Rattle.tn_theorems.specs.sessions.Returned.{Served, Connected}
use Rattle.tn_session.specs.Client as of_client
use Rattle.tn_session.specs.{Facts.JobFacts, Transcripts.{Exchange, all_wrote}}
use Rattle.tn_session.specs.Session as of_server
use Rattle.tn_cores.specs.server.Marks.{run_after_opening}
use Rattle.tn_cores.specs.server.Run as term_run

-- By these steps the run has come so far, and all that it sent by then was written in them; or they wrote all
-- that was ever written, as a write failed.
pub record AreAnswered {R M : Type 0} (turns : R → M → R → Type 0) (says : R → List ℕ) (first : R)
    (messages : List M)
    (written : List ℕ) (done : List Exchange) : Type 0 where
  pub front : List M
  pub later : List M
  pub of_messages : messages ≡ front ++ later
  pub as_many : length front ≡ length done
  pub by_then : R
  pub leads : FoldsTo turns first front by_then
  pub answered : (all_wrote done ≡ says by_then) ⊎ (all_wrote done ≡ written)

-- NO ANSWER COMES LATE: so it is after each step of a transcript, before the core takes its next message. The
-- fields `noted` of `RunningSession` and of `RunningClient` state what a step is, and that the core noted it
-- when it acted.
abbrev pub AnswersOfServer : {J : Type 0} {facts : JobFacts J} {canon : Canon} → Served facts canon → Type 0
AnswersOfServer {J} {facts} {canon} s =
    (done later : List Exchange) (step : Exchange) → s.ran.transcript ≡ (done ++ step ∷ []) ++ later
    → AreAnswered of_server.OpensOrTurns of_server.says
    (run_after_opening s.ran.schedule.wrote_opening (term_run.start canon s.approach s.ran.jobs))
    (None ∷ map (λ m. Some m) s.ran.schedule.marked) s.ran.schedule.written (done ++ step ∷ [])

-- after each step of its transcript the client has written all that it sent by then
abbrev pub AnswersOfClient : {limit : ℕ} → Connected limit → Type 0
AnswersOfClient {limit} c =
    (done later : List Exchange) (step : Exchange) → c.ran.transcript ≡ (done ++ step ∷ []) ++ later
    → AreAnswered core.Turns of_client.says (core_run.start c.width c.height limit) c.ran.marked c.ran.written
    (done ++ step ∷ [])
