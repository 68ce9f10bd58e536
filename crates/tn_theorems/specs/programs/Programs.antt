-- The theorem of two programs (T3), of what `serve_connection` and `connect` return. Read `TheoremOfPrograms` at
-- the end first.
use Rattle.std.specs.Prelude.{◌≡◌, ℕ, IsTrue, Option, None, Some, List, []}
use Rattle.crossbeam_channel.specs.Claims.{view}
use Rattle.tn_connect.specs.{Clients.{RunsClient, window_of}, Sent.TookWhatWasWritten}
use Rattle.tn_connect.specs.declared.{connected.Connected.Connected as ConnectedT, settings.Connecting.Connecting}
use Rattle.tn_discipline.specs.Keys.{roles_of}
use Rattle.tn_editor.specs.{Changing.{Typed, typed_gains}, Edited.nothing_typed, Entering.whole_lines}
use Rattle.tn_theorems.specs.sessions.{Returned.{Connected, Served, client_seen, server_seen}}
use Rattle.tn_theorems.specs.sessions.Theorem.{RanToTheEnd, ReadsWhatIsTyped, keys_of}
use Rattle.tn_theorems.specs.sessions.Transcripts.{ClientSession, IsCarried, ServerSession}
use Rattle.tn_serve.specs.{Servers.{RunsServer, attended, terminal_of}, declared.conversed.Conversed.Conversed}
use Rattle.tn_serve.specs.declared.settings.SessionOptions.{SessionOptions}
use Rattle.tn_cores.specs.streams.{Beside.no_words, Known.{KnownReader, KnownTyping, KnownWriting}}
use Rattle.tn_session.specs.Facts.{JobFacts, client_result, session_result}
use Rattle.tn_session.specs.Transcripts.{all_read, all_wrote, came_by}
use Rattle.tn_net.specs.{Logs.{logged, wrote}, Queue.put_bytes}
use Rattle.tn_nvt.specs.Prefixes.{IsPrefixOf}

-- both returned: what each gave back, and promises of it
pub record Programs {J : Type 0} (facts : JobFacts J) : Type 0 where
  pub to_make : Option ℕ
  pub options : SessionOptions
  pub conversed : Conversed
  pub served : RunsServer facts to_make options conversed
  pub connecting : Connecting
  pub keys : KnownTyping
  pub seen : Option (List ℕ)
  pub now : Option (List ℕ)
  pub connected : ConnectedT
  pub joined : RunsClient (window_of connecting) keys seen now connected
  pub sent : TookWhatWasWritten connected

-- the server's session of the two
abbrev pub served_of : {J : Type 0} {facts : JobFacts J} → (p : Programs facts)
    → Served facts (terminal_of p.options).canon
served_of p =
    record {
      approach = (terminal_of p.options).approach;
      to_make = p.to_make;
      reader = attended;
      writer = wrote p.conversed.log;
      result = session_result p.conversed.report p.conversed.ports;
      ran = p.served;
    }

-- of the client's connection nothing is known beforehand, except that it brings no size
abbrev pub unforeseen : KnownReader
unforeseen = record { bytes = None; failures = None; sizes = Some []; words = no_words }

-- a writer that held these bytes at first, and those in the end
abbrev pub holding : Option (List ℕ) → Option (List ℕ) → KnownWriting
holding first last =
    record { before = record { bytes = first; calls = None }; after = record { bytes = last; calls = None } }

-- the client's session of the two
abbrev pub connected_of : {J : Type 0} {facts : JobFacts J} → (p : Programs facts)
    → Connected p.connecting.line_limit
connected_of p =
    record {
      width = p.connecting.width;
      height = p.connecting.height;
      keys = p.keys;
      reader = unforeseen;
      writer = holding (Some []) (put_bytes (view p.connected.queue));
      screen = holding p.seen p.now;
      result = client_result p.connected.report p.connected.ports;
      ran = p.joined;
    }

-- what is seen of both
abbrev pub server_seen_in : {J : Type 0} {facts : JobFacts J} → Programs facts → ServerSession
server_seen_in p = server_seen (served_of p)

-- what is seen of the client's session of the two
abbrev pub client_seen_in : {J : Type 0} {facts : JobFacts J} → Programs facts → ClientSession
client_seen_in p = client_seen (connected_of p)

-- THESE ARE OF THEIR CONNECTION: each read what its thread read from there. What the server wrote was taken
-- by the connection, as its log has it. What the client wrote waited in its queue for the thread that sends;
-- the connection took the first of it, and all of it if `connect` reports so.
pub record AreTheirs {J : Type 0} {facts : JobFacts J} (p : Programs facts) : Type 0 where
  pub server_read : all_read (server_seen_in p).transcript ≡ came_by (view p.conversed.ports.net).net
  pub server_wrote : all_wrote (server_seen_in p).transcript ≡ logged p.conversed.log
  pub client_read : all_read (client_seen_in p).transcript ≡ came_by (view p.connected.ports.net).net
  pub client_wrote : Some (all_wrote (client_seen_in p).transcript) ≡ put_bytes (view p.connected.queue)
  pub client_sent : IsPrefixOf (logged p.connected.log) (all_wrote (client_seen_in p).transcript)
  pub client_sent_all : IsTrue p.connected.all_sent
      → logged p.connected.log ≡ all_wrote (client_seen_in p).transcript

-- THE THEOREM OF TWO PROGRAMS: with lines of one limit, if a socket carries what each wrote, the job took a prefix
-- of what one local terminal gives for what was typed, or all of it; and the bytes are theirs.
abbrev pub TheoremOfPrograms : {J : Type 0} → JobFacts J → Type 0
TheoremOfPrograms facts =
    (p : Programs facts) → p.connecting.line_limit ≡ p.options.line_limit
    → IsCarried (server_seen_in p).transcript (client_seen_in p).transcript
    → ReadsWhatIsTyped (terminal_of p.options).canon (server_seen_in p) (client_seen_in p) × AreTheirs p

-- The keys that the client read are those of lines that were edited before, each of which went once it ended: then the
-- job took a prefix of the entries that one local terminal with the editing keys gives for what was typed, and all
-- of them if both ran to the end.
abbrev pub ReadsEditedLines : {J : Type 0} → JobFacts J → Type 0
ReadsEditedLines facts =
    (p : Programs facts) (typed : List Typed) → p.connecting.line_limit ≡ p.options.line_limit
    → IsCarried (server_seen_in p).transcript (client_seen_in p).transcript
    → (let canon = (terminal_of p.options).canon in
    roles_of canon.settings (keys_of canon.settings (client_seen_in p).inputs)
    ≡ whole_lines canon nothing_typed typed
    → let given = typed_gains canon nothing_typed typed in
    IsPrefixOf (server_seen_in p).entries_taken given
    × (RanToTheEnd (server_seen_in p) (client_seen_in p) → (server_seen_in p).entries_taken ≡ given))
