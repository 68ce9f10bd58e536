-- The session that a server runs over a connection.
use Rattle.std.specs.Prelude.{◌≡◌, ◌≢◌, ℕ, Option, Some, None, [], IfOk, IfErr}
use Rattle.std.specs.declared.net.tcp.TcpStream.{TcpStream}
use Rattle.tn_discipline.specs.{Characters.standard_characters, Keys.standard_flags}
use Rattle.tn_serve.specs.declared.conversed.{Conversed.Conversed, Ran.Ran}
use Rattle.tn_serve.specs.declared.settings.SessionOptions.{SessionOptions}
use Rattle.tn_session.specs.Facts.{JobFacts, SessionResult, TermSettings, session_result}
use Rattle.tn_session.specs.Session.{RunningSession, IsRefusal}
use Rattle.tn_net.specs.{LastWords.last_lines, Logs.wrote, declared.write_log.WriteLog.WriteLog}
use Rattle.tn_cores.specs.{server.Welcoming.too_far_ahead, streams.Known.KnownReader}

-- a terminal with standard settings, under these options
abbrev pub terminal_of : SessionOptions → TermSettings
terminal_of options =
    record {
      canon = record {
        settings = record { flags = standard_flags; chars = standard_characters };
        limit = options.line_limit;
      };
      approach = record { opening = options.opening; editing = options.editing };
    }

-- nothing is known of its connection before, except that it sends no size, and what its last words may be
abbrev pub attended : KnownReader
attended = record { bytes = None; failures = None; sizes = Some []; words = last_lines }

-- A server's session ran with such jobs, wrote what is in this log, and gave back this.
abbrev pub RunsWriting : {J : Type 0} → JobFacts J → Option ℕ → SessionOptions → WriteLog → SessionResult
    → Type 0
RunsWriting facts to_make options log result =
    RunningSession facts to_make (terminal_of options) attended (wrote log) result

-- a session with this result ran over a connection: all that was read from it stands in the ports
abbrev pub RunsServer : {J : Type 0} → JobFacts J → Option ℕ → SessionOptions → Conversed → Type 0
RunsServer facts to_make options conversed =
    RunsWriting facts to_make options conversed.log (session_result conversed.report conversed.ports)

-- the connection that a session ran over
abbrev pub connection_of : Conversed → TcpStream
connection_of conversed = conversed.connection.value

-- The result of the thread of a session: if it came to its report, such a session ran over this connection,
-- in which never too many entries waited; else why it did not.
abbrev pub IsPromised : {J : Type 0} → JobFacts J → Option ℕ → SessionOptions → TcpStream → Ran → Type 0
IsPromised facts to_make options stream ran =
    IfErr ran.ended IsRefusal
    × IfOk ran.ended (λ conversed. RunsServer facts to_make options conversed
    × (conversed.report.ended ≢ too_far_ahead) × (connection_of conversed ≡ stream))
