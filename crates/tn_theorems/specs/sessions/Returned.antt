-- What the calls that run two sessions return, and what is seen of it.
use Rattle.std.specs.Prelude.{◌≡◌, ℕ, Option, Some, List, []}
use Rattle.tn_cores.specs.streams.Known.{KnownReader, KnownTyping, KnownWriting}
use Rattle.tn_discipline.specs.Canon.{Canon}
use Rattle.tn_server.specs.declared.openings.Approach.{Approach}
use Rattle.tn_session.specs.{Client.RunningClient, Facts.{ClientResult, JobFacts, SessionResult}}
use Rattle.tn_session.specs.Session.{RunningSession}
use Rattle.tn_theorems.specs.sessions.Transcripts.{ClientSession, ServerSession}

-- a server's session that ran, with a terminal of this canon: the promise of `serve_session`
pub record Served {J : Type 0} (facts : JobFacts J) (canon : Canon) : Type 0 where
  pub approach : Approach
  pub to_make : Option ℕ
  pub reader : KnownReader
  pub writer : KnownWriting
  pub result : SessionResult
  pub ran : RunningSession facts to_make (record { canon = canon; approach = approach }) reader writer result

-- a client's session that ran, with lines of at most this number of bytes: the promise of `client_session`
pub record Connected (limit : ℕ) : Type 0 where
  pub width : ℕ
  pub height : ℕ
  pub keys : KnownTyping
  pub reader : KnownReader
  pub writer : KnownWriting
  pub screen : KnownWriting
  pub result : ClientResult
  pub ran : RunningClient (record { width = width; height = height; limit = limit }) keys reader writer screen
      result

-- what is seen of a server's session
abbrev pub server_seen : {J : Type 0} {facts : JobFacts J} {canon : Canon} → Served facts canon
    → ServerSession
server_seen s =
    record {
      transcript = s.ran.transcript;
      entries_taken = s.ran.entries_taken;
      ended = s.result.report.ended;
    }

-- what is seen of a client's session
abbrev pub client_seen : {limit : ℕ} → Connected limit → ClientSession
client_seen c =
    record { transcript = c.ran.transcript; inputs = c.ran.inputs; ended = c.result.report.ended }

-- THE PREMISE OF THE SERVER: this was seen of a call of `serve_session`, for a terminal of this canon and these
-- jobs
pub record IsServed {J : Type 0} (facts : JobFacts J) (canon : Canon) (s : ServerSession) : Type 0 where
  pub run : Served facts canon
  pub seen : s ≡ server_seen run

-- THE PREMISE OF THE CLIENT: this was seen of a call of `client_session`, with lines of at most this number of
-- bytes
pub record IsConnected (limit : ℕ) (c : ClientSession) : Type 0 where
  pub run : Connected limit
  pub seen : c ≡ client_seen run

-- the client's reader gives these bytes, with nothing asked for between them
pub record GivesAlone (limit : ℕ) (c : ClientSession) (given : List ℕ) : Type 0 where
  pub connected : IsConnected limit c
  pub bytes : connected.run.keys.reader.bytes ≡ Some given
  pub alone : connected.run.keys.controls ≡ Some []
