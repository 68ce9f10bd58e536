-- The sessions that a server counts.
use Rattle.std.specs.{Prelude.{◌≡◌, ℕ, ◌+◌, Option, List, length, ◌⊎◌}, declared.net.tcp.TcpStream.TcpStream}
use Rattle.tn_discipline.specs.{Limits.standard_limit, declared.reads.Entry.Entry}
use Rattle.tn_jobs.specs.declared.reactions.Reaction.{Reaction}
use Rattle.tn_serve.specs.{Ends.{IsWhole, finished_as, not_started}, Servers.IsPromised}
use Rattle.tn_serve.specs.declared.{conversed.Ran.Ran, finished.Finished.Finished}
use Rattle.tn_serve.specs.declared.settings.SessionOptions.{SessionOptions}
use Rattle.tn_server.specs.declared.{openings.Opening.TheVariants.Keys, wishes.Editing.TheVariants.Remote}
use Rattle.tn_session.specs.{Facts.{JobFacts, job_facts}, Makers.begins}

-- the options for which no caller asked
abbrev pub no_options : SessionOptions
no_options = record { line_limit = standard_limit; opening = Keys; editing = Remote; idle = 0; longest = 0 }

-- the known facts of the jobs of each maker of such jobs
abbrev pub facts_of : {M J : Type 0} → (J → Type 0) → (M → J → M → Type 0)
    → (J → Entry → Reaction → J → Type 0)
    → (J → Reaction → J → Type 0) → (J → Option Entry → Type 0) → M → JobFacts J
facts_of fresh gives reacts steps refuses jobs = job_facts (begins fresh gives jobs) reacts steps refuses

-- The known facts of a server: the jobs that a maker gives and how many are to come, the options of its
-- sessions, which makers its service gives them, and what a connection that gets no session was sent.
pub record ServerFacts (M J : Type 0) : Type 1 where
  pub facts : M → JobFacts J
  pub left : M → Option ℕ
  pub options : SessionOptions
  pub made : M → Type 0
  pub turned : TcpStream → Type 0

-- the known facts of a server, by these parts
abbrev pub server_of : {M J : Type 0} → (M → JobFacts J) → (M → Option ℕ) → SessionOptions → (M → Type 0)
    → (TcpStream → Type 0) → ServerFacts M J
server_of facts left options made turned =
    record { facts = facts; left = left; options = options; made = made; turned = turned }

module _ {M J : Type 0} (server : ServerFacts M J) where
  -- a session that was joined: what made its jobs, the connection that it was to run over, and what its
  -- thread gave back
  pub record Joined : Type 0 where
    pub jobs : M
    pub made : ∥ server.made jobs ∥₁
    pub stream : TcpStream
    pub ran : Ran
    pub promised : IsPromised (server.facts jobs) (server.left jobs) server.options stream ran

  -- a session that was joined has ended so, or one that was not started
  abbrev pub HasEnded : Finished → Type 0
  HasEnded finished = ((joined : Joined) × (finished ≡ finished_as joined.ran)) ⊎ (finished ≡ not_started)

  -- This number of sessions were joined that ended whole; of those that were faulted, each was joined or
  -- could not be started; of those that were refused, each connection was sent so.
  pub record CountsSessions (whole faulted refused : ℕ) : Type 0 where
    pub whole_ones : List ((joined : Joined) × IsWhole (finished_as joined.ran))
    pub faulted_ones : List ((joined : Joined) × ¬ IsWhole (finished_as joined.ran))
    pub unstarted : ℕ
    pub refused_ones : List ((stream : TcpStream) × server.turned stream)
    pub whole_is : whole ≡ length whole_ones
    pub faulted_is : faulted ≡ length faulted_ones + unstarted
    pub refused_is : refused ≡ length refused_ones

  -- one more session, or none, is counted so: if the old counts are of sessions, the new are
  abbrev pub StillCounts : ℕ → ℕ → ℕ → ℕ → ℕ → ℕ → Type 0
  StillCounts whole faulted refused whole' faulted' refused' =
      CountsSessions whole faulted refused → CountsSessions whole' faulted' refused'
