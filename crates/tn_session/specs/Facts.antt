-- The known facts of a session's jobs, its settings and its results, each in one record.
use Rattle.std.specs.Prelude.{ℕ, Bool, Option, List}
use Rattle.crossbeam_channel.specs.Claims.{view}
use Rattle.tn_discipline.specs.{Canon.Canon, declared.reads.Entry.Entry}
use Rattle.tn_jobs.specs.declared.{held_jobs.JobId.JobId, reactions.Reaction.Reaction}
use Rattle.tn_server.specs.declared.openings.Approach.{Approach}
use Rattle.tn_session.specs.{workers.Acts.{JobActs, job_acts}, declared.workers.back.Runner.Runner}
use Rattle.tn_session.specs.{declared.workers.channels.View.View, workers.EntryChannel.EntryHand}
use Rattle.tn_session.specs.{workers.Stops.StopHand, Notes.{Noted, noted_of}, declared.parties.Ports.Ports}
use Rattle.tn_session.specs.declared.parties.{ClientPorts.ClientPorts, Report.Report}

-- The facts of a type of jobs: how they act, and with which a session may begin, the first and then the
-- others, in order.
pub record JobFacts (J : Type 0) : Type 1 where
  pub begins : List J → Type 0
  pub acts : JobActs J

-- the facts of jobs, by these relations
abbrev pub job_facts : {J : Type 0} → (List J → Type 0) → (J → Entry → Reaction → J → Type 0)
    → (J → Reaction → J → Type 0) → (J → Option Entry → Type 0) → JobFacts J
job_facts begins reacts steps refuses = record { begins = begins; acts = job_acts reacts steps refuses }

-- The jobs of a session as they begin: the foreground job with its number, those in the background, and
-- whether a text stops one of these (the flag TOSTOP of the terminal).
pub record SessionJobs (J : Type 0) : Type 0 where
  pub first : JobId
  pub job : J
  pub queue : List (Runner J)
  pub tostop : Bool

-- the terminal's settings with its limit, and the approach to the client
pub record TermSettings : Type 0 where
  pub canon : Canon
  pub approach : Approach

-- the passes of a session: what each thread sent, what the terminal handled and put, what was taken, and
-- whether the thread of the background jobs was asked to stop
pub record SessionViews : Type 0 where
  pub net : View
  pub desk : View
  pub back : View
  pub term : View
  pub put : EntryHand
  pub took : EntryHand
  pub told : StopHand

-- the views of a session's passes
abbrev pub views_of : Ports → SessionViews
views_of ports =
    record {
      net = view ports.net;
      desk = view ports.desk;
      back = view ports.back;
      term = view ports.term;
      put = view ports.put;
      took = view ports.took;
      told = view ports.told;
    }

-- the report of a session, the views of its passes, and what its terminal did, in order
pub record SessionResult : Type 0 where
  pub report : Report
  pub views : SessionViews
  pub noted : Noted

-- the result of a session, by its report and its passes
abbrev pub session_result : Report → Ports → SessionResult
session_result report ports = record {
  report = report;
  views = views_of ports;
  noted = noted_of ports.transcript;
}

-- the size of a client's window, and the limit of its lines
pub record Window : Type 0 where
  pub width : ℕ
  pub height : ℕ
  pub limit : ℕ

-- the report of a client's session, what its threads sent and its core handled, whether the thread that reads
-- the keys was asked to stop, and the core's actions, in order
pub record ClientResult : Type 0 where
  pub report : Report
  pub keys : View
  pub net : View
  pub core : View
  pub told : StopHand
  pub noted : Noted

-- the result of a client's session, by its report and its passes
abbrev pub client_result : Report → ClientPorts → ClientResult
client_result report ports =
    record {
      report = report;
      keys = view ports.keys;
      net = view ports.net;
      core = view ports.core;
      told = view ports.told;
      noted = noted_of ports.transcript;
    }
