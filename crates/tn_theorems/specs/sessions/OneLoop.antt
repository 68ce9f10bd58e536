-- The theorem of one loop (T4), which runs the machines of two sessions: no socket, no thread and no pipe is
-- between them but two lists of bytes. Read `Happens`, and `ReadsAll` at the end.
use Rattle.std.specs.Prelude.{◌≡◌, ◌<◌, ◌⊎◌, ℕ, IsFalse, All, List, [], ◌∷◌, ◌++◌, flat_map, length, min}
use Rattle.std.specs.List.{FoldsTo}
use Rattle.tn_cores.specs.client.Reaching as core
use Rattle.tn_cores.specs.client.Run as core_run
use Rattle.tn_cores.specs.{declared.client.{machine.Core.Core, messages.Told.Told}, server.Run.puts_of}
use Rattle.tn_cores.specs.{client.Bringing.{Input, inputs_in}, declared.messages.Message.Message}
use Rattle.tn_cores.specs.{server.Giving.entries_put, declared.server.{messages.Put.Put, terminal.Term.Term}}
use Rattle.tn_cores.specs.declared.client.messages.ClientMark as core_mark
use Rattle.tn_cores.specs.declared.client.messages.Origin.TheVariants as origin
use Rattle.tn_discipline.specs.{Canon.{Canon, typed_entries}, Characters.standard_characters}
use Rattle.tn_jobs.specs.Jobs.{Jobs}
use Rattle.tn_theorems.specs.sessions.{Theorem.{HasKey, keys_of}, Transcripts.IsCarried}
use Rattle.tn_theorems.specs.declared.sessions.one_loop.{Joined.Joined, LoopEvent.LoopEvent}
use Rattle.tn_theorems.specs.declared.sessions.one_loop.LoopEvent.TheVariants.{Take, Said, Typed, Asked}
use Rattle.tn_theorems.specs.declared.sessions.one_loop.LoopEvent.TheVariants.{ToServer, ToClient}
use Rattle.tn_cores.specs.declared.messages.Message.TheVariants as message
use Rattle.tn_nvt.specs.{Spelling.spells, Prefixes.IsPrefixOf}
use Rattle.tn_server.specs.{Lines.waiting, Replies.items_said, declared.openings.Approach.Approach}
use Rattle.tn_session.specs.Transcripts.{Exchange, all_read, all_wrote}
use Rattle.tn_cores.specs.server.Reaching as term
use Rattle.tn_cores.specs.server.Run as term_run
use Rattle.tn_cores.specs.declared.server.messages.ServerMark as term_mark

-- both were started: the opening messages are on their way to the client
pub record IsStart (canon : Canon) (approach : Approach) (jobs : Jobs) (width height : ℕ)
    (j : Joined) : Type 0 where
  pub server : term.LeadsTo (term_run.start canon approach jobs) j.term
  pub client : core.LeadsTo (core_run.start width height canon.limit) j.core
  pub to_server : j.to_server.items ≡ []
  pub to_client : j.to_client.items ≡ spells (items_said (term_run.opening canon approach))
  pub shown : j.shown.items ≡ []
  pub puts : j.puts.items ≡ []

-- this number of the bytes come, or all if there are fewer
pub record TakesFirst (bytes : List ℕ) (count : ℕ) (first rest : List ℕ) : Type 0 where
  pub whole : bytes ≡ first ++ rest
  pub many : length first ≡ min count (length bytes)

-- the terminal handles this message: what it appends goes to the client, and what it gives is put
pub record ServesOne (old : Joined) (m : Message) (new : Joined) : Type 0 where
  pub mark : term_mark.ServerMark
  pub bytes : List ℕ
  pub put : Put
  pub last : Put
  pub turn : term.IsTurn mark old.term m bytes put last new.term
  pub to_client : new.to_client.items ≡ old.to_client.items ++ bytes
  pub puts : new.puts.items ≡ old.puts.items ++ (puts_of put ++ puts_of last)
  pub core : new.core ≡ old.core
  pub to_server : new.to_server ≡ old.to_server
  pub shown : new.shown ≡ old.shown

-- the core handles this: what it appends goes to the server, and what it shows to the user
pub record TellsOne (old : Joined) (told : Told) (new : Joined) : Type 0 where
  pub mark : core_mark.ClientMark
  pub bytes : List ℕ
  pub text : List ℕ
  pub turn : core.IsTurn mark old.core told bytes text new.core
  pub to_server : new.to_server.items ≡ old.to_server.items ++ bytes
  pub shown : new.shown.items ≡ old.shown.items ++ text
  pub term : new.term ≡ old.term
  pub to_client : new.to_client ≡ old.to_client
  pub puts : new.puts ≡ old.puts

-- a message from the user
abbrev pub from_user : Message → Told
from_user m = record { from = origin.Keys; message = m }

-- a piece from the network
abbrev pub from_network : List ℕ → Told
from_network piece = record { from = origin.Net; message = message.Piece piece }

-- the bytes that come are taken off those that are on their way
pub record ComesToServer (old : Joined) (count : ℕ) (new : Joined) : Type 0 where
  pub piece : List ℕ
  pub mid : Joined
  pub taken : TakesFirst old.to_server.items count piece mid.to_server.items
  pub term : mid.term ≡ old.term
  pub core : mid.core ≡ old.core
  pub to_client : mid.to_client ≡ old.to_client
  pub shown : mid.shown ≡ old.shown
  pub puts : mid.puts ≡ old.puts
  pub served : ServesOne mid (message.Piece piece) new

-- The first bytes on their way to the client come there.
pub record ComesToClient (old : Joined) (count : ℕ) (new : Joined) : Type 0 where
  pub piece : List ℕ
  pub mid : Joined
  pub taken : TakesFirst old.to_client.items count piece mid.to_client.items
  pub term : mid.term ≡ old.term
  pub core : mid.core ≡ old.core
  pub to_server : mid.to_server ≡ old.to_server
  pub shown : mid.shown ≡ old.shown
  pub puts : mid.puts ≡ old.puts
  pub told : TellsOne mid (from_network piece) new

-- ONE EVENT
abbrev pub Happens : Joined → LoopEvent → Joined → Type 0
Happens old (Typed keys) new = TellsOne old (from_user (message.Piece keys)) new
Happens old (Asked control) new = TellsOne old (from_user (message.Asked control)) new
Happens old (ToServer count) new = ComesToServer old count new
Happens old (ToClient count) new = ComesToClient old count new
Happens old Take new = ServesOne old message.Take new
Happens old (Said job text after) new = ServesOne old (message.Said job text after) new

-- WHEN A CALL IS REFUSED: memory runs out only if a machine appends, shows or gives something
pub record ServesNone (old : Joined) (m : Message) : Type 0 where
  pub mark : term_mark.ServerMark
  pub bytes : List ℕ
  pub put : Put
  pub last : Put
  pub after : Term
  pub turn : term.IsTurn mark old.term m bytes put last after
  pub grows : (0 < length bytes) ⊎ (0 < length (puts_of put ++ puts_of last))

-- The message makes the client's machine append or show something.
pub record TellsNone (old : Joined) (told : Told) : Type 0 where
  pub mark : core_mark.ClientMark
  pub bytes : List ℕ
  pub text : List ℕ
  pub after : Core
  pub turn : core.IsTurn mark old.core told bytes text after
  pub grows : (0 < length bytes) ⊎ (0 < length text)

-- the bytes that come are taken off into memory of their own
abbrev pub IsRefused : Joined → LoopEvent → Type 0
IsRefused old (Typed keys) = TellsNone old (from_user (message.Piece keys))
IsRefused old (Asked control) = TellsNone old (from_user (message.Asked control))
IsRefused old (ToServer count) = Unit {0}
IsRefused old (ToClient count) = Unit {0}
IsRefused old Take = ServesNone old message.Take
IsRefused old (Said job text after) = ServesNone old (message.Said job text after)

-- the first of these happened, and the next was refused
pub record StopsIn (first : Joined) (script : List LoopEvent) : Type 0 where
  pub front : List LoopEvent
  pub event : LoopEvent
  pub later : List LoopEvent
  pub mid : Joined
  pub whole : script ≡ front ++ event ∷ later
  pub happened : FoldsTo Happens first front mid
  pub refused : IsRefused mid event

-- the inputs that the user typed: keys, and commands between them
abbrev pub inputs_by : LoopEvent → List Input
inputs_by (Typed keys) = inputs_in (message.Piece keys)
inputs_by (Asked control) = inputs_in (message.Asked control)
inputs_by _ = []

-- the inputs of these events
abbrev pub inputs_of : List LoopEvent → List Input
inputs_of events = flat_map inputs_by events

-- THE THEOREM, with nothing between the two: what was put for the foreground job is the first of what a local
-- terminal gives for what was typed; and if nothing is on its way to the server, and nothing failed, that and
-- what waits for the job is all of it. That the bytes are carried is a part of it, and no premise.
pub record ReadsAll (canon : Canon) (typed : List Input) (j : Joined) : Type 0 where
  pub prefix : IsPrefixOf (entries_put j.puts.items) (typed_entries canon (keys_of canon.settings typed))
  pub all : j.to_server.items ≡ [] → IsFalse j.term.progress.over → IsFalse j.core.progress.over
      → (c : term_run.Run) × term.LeadsTo c j.term
      × (entries_put j.puts.items ++ waiting c.history ≡ typed_entries canon (keys_of canon.settings typed))
  pub server : List Exchange
  pub client : List Exchange
  pub carried : IsCarried server client
  -- the bytes that one has written and the other not read are on their way
  pub to_server : all_wrote client ≡ all_read server ++ j.to_server.items
  pub to_client : all_wrote server ≡ all_read client ++ j.to_client.items

-- from the start on, with the standard special characters, of which INTR interrupts if BRK or IP was sent
abbrev pub TheoremOfOneLoop : Type 0
TheoremOfOneLoop =
    (canon : Canon) (approach : Approach) (jobs : Jobs) (width height : ℕ) (first last : Joined)
    (script : List LoopEvent)
    → canon.settings.chars ≡ standard_characters
    → All (λ input. HasKey canon.settings input) (inputs_of script)
    → IsStart canon approach jobs width height first → FoldsTo Happens first script last
    → ReadsAll canon (inputs_of script) last
