-- The session that a client runs over a connection.
use Rattle.std.specs.Prelude.{◌≡◌, ℕ, Bool, true, false, Option, Some, None, List, [], Result, Ok, Err, IfErr}
use Rattle.std.specs.{Prelude.unwrap_or, declared.{io.Error.Error, net.tcp.TcpStream.TcpStream}}
use Rattle.crossbeam_channel.specs.Claims.{view}
use Rattle.tn_connect.specs.{Faults.IsToldAs, declared.connected.Connected.Connected, Texts.with_text}
use Rattle.tn_connect.specs.declared.{fault.ConnectFault.ConnectFault, settings.Connecting.Connecting}
use Rattle.tn_connect.specs.declared.settings.KeySource.{KeySource, TheVariants.{Reader, Input, Terminal}}
use Rattle.tn_net.specs.{Typing.of_bytes, declared.escaping.Keyboard.Keyboard, Queue.put_bytes}
use Rattle.tn_net.specs.declared.returns.ReturnKey.{ReturnKey, TheVariants.CrNul}
use Rattle.tn_session.specs.{Client.RunningClient, Facts.{Window, client_result}}
use Rattle.tn_session.specs.declared.parties.{ClientPorts.ClientPorts, Report.Report}
use Rattle.tn_cores.specs.streams.{Beside.no_words, Known.KnownTyping}

-- the window of a client, by its options
abbrev pub window_of : Connecting → Window
window_of connecting =
    record { width = connecting.width; height = connecting.height; limit = connecting.line_limit }

-- The keys of a reader with these bytes, which may be a text, as known beforehand: the keys that the bytes
-- are, with no size of a window and no request. If they are waited for, nothing is known but that only a
-- terminal brings requests.
abbrev pub foreseen : KeySource → Bool → Option (List ℕ) → KnownTyping
foreseen Reader text bytes =
    record {
      reader = record { bytes = with_text text false bytes; failures = None; sizes = Some []; words = no_words };
      controls = Some [];
    }
foreseen Input text bytes =
    record {
      reader = record { bytes = None; failures = None; sizes = None; words = no_words };
      controls = Some [];
    }
foreseen (Terminal own) text bytes =
    record {
      reader = record { bytes = None; failures = None; sizes = None; words = no_words };
      controls = None;
    }

-- the meaning of the bytes of keys: only at a terminal they stand for anything but themselves
abbrev pub keyboard_by : KeySource → Option ℕ → ReturnKey → Keyboard
keyboard_by Reader escape returns = of_bytes
keyboard_by Input escape returns = of_bytes
keyboard_by (Terminal own) escape returns =
    record { escape = escape; own = own; editing = own; returns = returns; may_change = true }

-- a terminal's keys are those of no text
abbrev pub text_by : KeySource → Bool → Bool
text_by Reader text = text
text_by Input text = text
text_by (Terminal own) text = false

-- the meaning of the bytes that are typed, by the client's options
abbrev pub keyboard_of : Connecting → Keyboard
keyboard_of connecting = keyboard_by connecting.origin connecting.escape (unwrap_or connecting.returns CrNul)

-- A client's session ran with these keys and this screen, before and after it, wrote these bytes, and gave
-- back this. Nothing was known before of the connection's bytes, but that it brings no size; all that was
-- read from it stands in the ports.
abbrev pub RunsWriting : Window → KnownTyping → Option (List ℕ) → Option (List ℕ) → Option (List ℕ) → Report
    → ClientPorts → Type 0
RunsWriting window keys seen now written report ports =
    RunningClient window keys (record { bytes = None; failures = None; sizes = Some []; words = no_words })
    (record {
      before = record { bytes = Some []; calls = None };
      after = record { bytes = written; calls = None };
    })
    (record { before = record { bytes = seen; calls = None }; after = record { bytes = now; calls = None } })
    (client_result report ports)

-- a client's session ran as `RunsWriting` states, and all that it wrote was put into the queue
abbrev pub RunsClient : Window → KnownTyping → Option (List ℕ) → Option (List ℕ) → Connected → Type 0
RunsClient window keys seen now connected =
    RunsWriting window keys seen now (put_bytes (view connected.queue)) connected.report connected.ports

-- the connection that a session ran over
abbrev pub connection_of : Connected → TcpStream
connection_of connected = connected.connection.value

-- a session ran over the connection that there is; if there was none, that is reported
abbrev pub NeedsConnection : {A : Type 0} → (A → TcpStream) → Result A ConnectFault → Result TcpStream Error
    → Type 0
NeedsConnection over (Ok ran) reached = reached ≡ Ok (over ran)
NeedsConnection over (Err fault) reached = IfErr reached (λ error. IsToldAs error fault)

-- a connection was asked for, and the result came over that connection
abbrev pub ConnectsBy : {A : Type 0} → (A → TcpStream) → (Result TcpStream Error → Type 0)
    → Result A ConnectFault → Type 0
ConnectsBy over reaches result =
    (reached : Result TcpStream Error) × reaches reached × NeedsConnection over result reached
