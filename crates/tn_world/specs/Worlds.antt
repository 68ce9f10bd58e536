-- Both ends and the two streams between them, and what an event does to them.
use Rattle.std.specs.Prelude.{◌≡◌, ◌≢◌, ℕ, ◌<◌, Bool, true, IsTrue, false, IsFalse, min, Option, None, List}
use Rattle.std.specs.Prelude.{[], ◌∷◌, ◌++◌, length, take, drop, option_to_list}
use Rattle.tn_discipline.specs.{Canon.Canon, declared.reads.Entry.Entry}
use Rattle.tn_pty.specs.{Terminal.max_waiting, declared.pty.PtyFault.TheVariants.{Closed, TooFarAhead}}
use Rattle.tn_nvt.specs.Spelling.{spells, lf}
use Rattle.tn_server.specs.Events as server_calls
use Rattle.tn_server.specs.Faults as faults
use Rattle.tn_server.specs.{Faults.{IsOfItem, IsOfPiece}, declared.faults.ServerFault.ServerFault}
use Rattle.tn_server.specs.Answering as server_answers
use Rattle.tn_server.specs.Calls as server
use Rattle.tn_server.specs.Steps as server_steps
use Rattle.tn_server.specs.declared.faults.ServerFault.TheVariants as server_faults
use Rattle.tn_client.specs.Events as client_calls
use Rattle.tn_client.specs.Answering as client_answers
use Rattle.tn_client.specs.Calls as client
use Rattle.tn_client.specs.Steps.{end_after, says, displays, SaysOrShows}
use Rattle.tn_client.specs.declared.{commands.UserCommand.UserCommand, faults.ClientFault.ClientFault}
use Rattle.tn_client.specs.declared.faults.ClientFault.TheVariants as client_faults
use Rattle.tn_world.specs.{Commands.key_for, declared.{events.Event.Event, faults.Cause.Cause}}
use Rattle.tn_world.specs.declared.events.Event.TheVariants.{Key, NewLine, Send, ToServer, ToClient, Write}
use Rattle.tn_world.specs.declared.events.Event.TheVariants.{Pull, Take, Wish, Resize, SetChar, Propose, Echo}
use Rattle.tn_world.specs.declared.events.Event.TheVariants.{Mask, ServerStops, ClientStops}
use Rattle.tn_world.specs.declared.faults.Cause.TheVariants as cause

-- A world: both ends, whether each was stopped, what is in flight, and the lists since the mark.
pub record World : Type 0 where
  pub server : server.End
  pub client : client.End
  pub server_stopped : Bool
  pub client_stopped : Bool
  -- the bytes in flight
  pub to_server : List ℕ
  pub to_client : List ℕ
  -- since the last mark
  pub typed : List ℕ
  pub taken : List Entry
  -- the server's text on the client's screen, and the client's own echo
  pub shown : List ℕ
  pub echoed : List ℕ

-- the settings under which the server's terminal takes the keys
abbrev pub canon_of : World → Canon
canon_of w = record { settings = w.server.terminal.settings; limit = w.server.terminal.line.limit }

-- why a call of an end is refused whatever memory there is, if it is
abbrev pub server_fault : server.End → server_calls.Event → Option ServerFault
server_fault end (server_calls.wished editing) = server.call_fault end
server_fault end (server_calls.echo_set on) = server.call_fault end
server_fault end (server_calls.char_set func value) = server.char_fault_at end func value
server_fault end (server_calls.mask_set mask) = server.mask_fault end
server_fault end _ = None

-- why the client refuses the call, if it does
abbrev pub client_fault : client.End → client_calls.Event → Option ClientFault
client_fault end (client_calls.proposed func value) = client.propose_fault end func value
client_fault end _ = client.call_fault end

-- an end that was stopped does nothing
abbrev pub UnlessStopped : Bool → World → World → Type 0 → Type 0
UnlessStopped true old new happens = new ≡ old
UnlessStopped false old new happens = happens

-- A key is typed, or something that counts as this key: the client goes one step, and what it sends joins the
-- flight.
pub record Types (old : World) (e : client_calls.Event) (key : ℕ) (new : World) : Type 0 where
  pub accepted : client_fault old.client e ≡ None
  pub step : new
      ≡ record old {
        client = end_after old.client e;
        to_server = old.to_server ++ spells (says old.client e);
        echoed = old.echoed ++ displays old.client e;
        typed = old.typed ++ key ∷ [];
      }

-- a key is typed
abbrev pub TypesKey : World → ℕ → World → Type 0
TypesKey old key new = Types old (client_calls.typed key) key new

-- a new line counts as the key LF
abbrev pub EntersLine : World → World → Type 0
EntersLine old new = Types old client_calls.entered lf new

-- the key that a command stands for at the server's terminal
abbrev pub key_sent : World → UserCommand → Option ℕ
key_sent w command = key_for command (canon_of w).settings

-- A command is sent: it joins the flight, and counts as the key that it stands for.
pub record SendsCommand (old : World) (command : UserCommand) (new : World) : Type 0 where
  pub accepted : client_fault old.client (client_calls.sent command) ≡ None
  pub step : new
      ≡ record old {
        to_server = old.to_server ++ spells (says old.client (client_calls.sent command));
        typed = old.typed ++ option_to_list (key_sent old command);
      }

-- Any other call of the client.
pub record CallsClient (old : World) (e : client_calls.Event) (new : World) : Type 0 where
  pub accepted : client_fault old.client e ≡ None
  pub step : new
      ≡ record old {
        client = end_after old.client e;
        to_server = old.to_server ++ spells (says old.client e);
      }

-- The first bytes in flight arrive at the server, and its replies join the other flight.
pub record DeliversToServer (old : World) (n : ℕ) (new : World) : Type 0 where
  pub accepted : server.call_fault old.server ≡ None
  pub feeds : server_answers.Feeds old.server (take n old.to_server) old.to_client new.to_client new.server
  pub rest : new
      ≡ record old { server = new.server; to_server = drop n old.to_server; to_client = new.to_client }

-- The first bytes in flight arrive at the client.
pub record DeliversToClient (old : World) (n : ℕ) (new : World) : Type 0 where
  pub accepted : client.call_fault old.client ≡ None
  pub feeds : client_answers.Feeds old.client (take n old.to_client) old.to_server new.to_server old.shown new.shown
      new.client
  pub rest : new
      ≡ record old {
        client = new.client;
        to_client = drop n old.to_client;
        to_server = new.to_server;
        shown = new.shown;
      }

-- Any other call of the server: it goes one step, and what it sends joins the flight.
pub record CallsServer (old : World) (e : server_calls.Event) (new : World) : Type 0 where
  pub accepted : server_fault old.server e ≡ None
  pub step : new
      ≡ record old {
        server = server_steps.end_after old.server e;
        to_client = old.to_client ++ spells (server_steps.says old.server e);
      }

-- Symbols are sent: as many as there are, and no more than were asked for.
abbrev pub Pulls : World → ℕ → World → Type 0
Pulls old n = CallsServer old (server_calls.pulled (min n (length old.server.terminal.queue)))

-- The job takes the first entry that waits, if one does.
abbrev pub TakesEntry : World → World → Type 0
TakesEntry old new =
    new
    ≡ record old {
      server = server_steps.end_after old.server server_calls.took;
      to_client = old.to_client ++ spells (server_steps.says old.server server_calls.took);
      taken = old.taken ++ take 1 old.server.terminal.entries;
    }

-- the event is done
abbrev pub RunsEvent : World → Event → World → Type 0
RunsEvent old (Key key) new = UnlessStopped old.client_stopped old new (TypesKey old key new)
RunsEvent old NewLine new = UnlessStopped old.client_stopped old new (EntersLine old new)
RunsEvent old (Send command) new =
    UnlessStopped old.client_stopped old new (SendsCommand old command new)
RunsEvent old (ToServer n) new = UnlessStopped old.server_stopped old new (DeliversToServer old n new)
RunsEvent old (ToClient n) new = UnlessStopped old.client_stopped old new (DeliversToClient old n new)
RunsEvent old (Write bytes) new =
    UnlessStopped old.server_stopped old new (CallsServer old (server_calls.wrote bytes) new)
RunsEvent old (Pull n) new = UnlessStopped old.server_stopped old new (Pulls old n new)
RunsEvent old Take new = TakesEntry old new
RunsEvent old (Wish editing) new =
    UnlessStopped old.server_stopped old new (CallsServer old (server_calls.wished editing) new)
RunsEvent old (Resize width height) new =
    UnlessStopped old.client_stopped old new (CallsClient old (client_calls.resized width height) new)
RunsEvent old (SetChar func value) new =
    UnlessStopped old.server_stopped old new (CallsServer old (server_calls.char_set func value) new)
RunsEvent old (Propose func value) new =
    UnlessStopped old.client_stopped old new (CallsClient old (client_calls.proposed func value) new)
RunsEvent old (Echo on) new =
    UnlessStopped old.server_stopped old new (CallsServer old (server_calls.echo_set on) new)
RunsEvent old (Mask mask) new =
    UnlessStopped old.server_stopped old new (CallsServer old (server_calls.mask_set mask) new)
RunsEvent old ServerStops new = new ≡ record old { server_stopped = true }
RunsEvent old ClientStops new = new ≡ record old { client_stopped = true }

-- A delivery that the server refused: its bytes have left the flight.
-- An end that failed before did nothing more.
pub record ServerRefusesDelivery (old : World) (n : ℕ) (fault : ServerFault) (new : World) : Type 0 where
  pub goes_on : IsFalse old.server_stopped
  pub first : (IsTrue old.server.failed) → fault ≡ server_faults.Failed
  pub is_fault : IsOfPiece fault
  pub again : (fault ≡ server_faults.Failed)
      → IsTrue old.server.failed × (new ≡ record old { to_server = drop n old.to_server })
  pub halts : IsOfItem fault
      → server_answers.StopsWithin old.server (take n old.to_server) fault old.to_client new.to_client
      new.server
  pub shut : (fault ≡ server_faults.Pty Closed) → IsTrue old.server.terminal.closed
  pub failed : IsTrue new.server.failed
  pub rest : new
      ≡ record old { server = new.server; to_server = drop n old.to_server; to_client = new.to_client }

-- The client refuses a delivery.
pub record ClientRefusesDelivery (old : World) (n : ℕ) (fault : ClientFault) (new : World) : Type 0 where
  pub goes_on : IsFalse old.client_stopped
  pub is_fault : client.IsFault (client.call_fault old.client) fault
  pub again : (fault ≡ client_faults.Failed) → new ≡ record old { to_client = drop n old.to_client }
  pub breaks : (fault ≡ client_faults.Memory)
      → client_answers.StopsWithin old.client (take n old.to_client) old.to_server new.to_server old.shown new.shown
  pub failed : IsTrue new.client.failed
  pub rest : new
      ≡ record old {
        client = new.client;
        to_client = drop n old.to_client;
        to_server = new.to_server;
        shown = new.shown;
      }

-- A call of the server is refused for its cause, or for lack of memory for what it sends.
pub record ServerRefusesCall (end : server.End) (e : server_calls.Event) (fault : ServerFault) : Type 0 where
  pub cause : faults.IsFault (server_fault end e) fault
  pub grows : (fault ≡ server_faults.Memory) → server_steps.says end e ≢ []

-- A call of the client is refused for its cause, or for lack of memory for what it sends.
pub record ClientRefusesCall (end : client.End) (e : client_calls.Event) (fault : ClientFault) : Type 0 where
  pub cause : client.IsFault (client_fault end e) fault
  pub grows : (fault ≡ client_faults.Memory) → SaysOrShows end e

-- the event calls an end, other than by a delivery, and the call is refused for this fault: entries are taken
-- from a server that was stopped, too
abbrev pub ServerRefusesEvent : World → Event → ServerFault → Type 0
ServerRefusesEvent w (Pull n) fault =
    IsFalse w.server_stopped × ServerRefusesCall w.server (server_calls.pulled n) fault
ServerRefusesEvent w Take fault = ServerRefusesCall w.server server_calls.took fault
ServerRefusesEvent w (Wish editing) fault =
    IsFalse w.server_stopped × ServerRefusesCall w.server (server_calls.wished editing) fault
ServerRefusesEvent w (SetChar func value) fault =
    IsFalse w.server_stopped × ServerRefusesCall w.server (server_calls.char_set func value) fault
ServerRefusesEvent w (Echo on) fault =
    IsFalse w.server_stopped × ServerRefusesCall w.server (server_calls.echo_set on) fault
ServerRefusesEvent w (Mask mask) fault =
    IsFalse w.server_stopped × ServerRefusesCall w.server (server_calls.mask_set mask) fault
ServerRefusesEvent w e fault = ⊥

-- The client refuses the call of an event.
abbrev pub ClientRefusesEvent : World → Event → ClientFault → Type 0
ClientRefusesEvent w (Key key) fault =
    IsFalse w.client_stopped × ClientRefusesCall w.client (client_calls.typed key) fault
ClientRefusesEvent w NewLine fault =
    IsFalse w.client_stopped × ClientRefusesCall w.client client_calls.entered fault
ClientRefusesEvent w (Send command) fault =
    IsFalse w.client_stopped × ClientRefusesCall w.client (client_calls.sent command) fault
ClientRefusesEvent w (Resize width height) fault =
    IsFalse w.client_stopped × ClientRefusesCall w.client (client_calls.resized width height) fault
ClientRefusesEvent w (Propose func value) fault =
    IsFalse w.client_stopped × ClientRefusesCall w.client (client_calls.proposed func value) fault
ClientRefusesEvent w e fault = ⊥

-- the world needs memory of its own: for a typed key and one that is counted, for the rest of a flight that
-- is cut, for an entry that waits to be taken
abbrev pub WantsMemory : World → Event → Type 0
WantsMemory w (Key key) = IsFalse w.client_stopped
WantsMemory w NewLine = IsFalse w.client_stopped
WantsMemory w (Send command) = IsFalse w.client_stopped × (key_sent w command ≢ None)
WantsMemory w (ToServer n) = IsFalse w.server_stopped × (n < length w.to_server)
WantsMemory w (ToClient n) = IsFalse w.client_stopped × (n < length w.to_client)
WantsMemory w Take = w.server.terminal.entries ≢ []
WantsMemory w e = ⊥

-- the event is refused: if it is no delivery, nothing changes
abbrev pub Refuses : World → Event → Cause → World → Type 0
Refuses old e cause.Memory new = WantsMemory old e × (new ≡ old)
Refuses old (ToServer n) (cause.Server fault) new = ServerRefusesDelivery old n fault new
Refuses old (ToClient n) (cause.Client fault) new = ClientRefusesDelivery old n fault new
Refuses old e (cause.Server fault) new = ServerRefusesEvent old e fault × (new ≡ old)
Refuses old e (cause.Client fault) new = ClientRefusesEvent old e fault × (new ≡ old)

-- each of these events is done
abbrev pub Runs : World → List Event → World → Type 0
Runs old [] new = new ≡ old
Runs old (e ∷ events) new = (mid : World) × RunsEvent old e mid × Runs mid events new

-- The event at this place is refused, and those before it are done.
pub record StopsWithin (old : World) (events : List Event) (at : ℕ) (cause : Cause)
    (new : World) : Type 0 where
  pub done : List Event
  pub event : Event
  pub left : List Event
  pub whole : events ≡ done ++ event ∷ left
  pub place : length done ≡ at
  pub mid : World
  pub runs : Runs old done mid
  pub refuses : Refuses mid event cause new

-- if the fault is that too many entries wait, as many do as there may be; a terminal is never found closed
abbrev pub ShowsCause : Cause → World → Type 0
ShowsCause (cause.Server (server_faults.Pty TooFarAhead)) w = length w.server.terminal.entries ≡ max_waiting
ShowsCause (cause.Server (server_faults.Pty Closed)) w = ⊥
ShowsCause c w = Unit {0}
