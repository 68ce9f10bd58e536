-- Two runs at once: of the terminal of a server's session, and of the core of a client's.
use Rattle.std.specs.Prelude.{◌≡◌, ℕ, Bool, List, [], ◌∷◌}
use Rattle.tn_client.specs.Replies as client_says
use Rattle.tn_cores.specs.client.Marks as core
use Rattle.tn_cores.specs.client.Run as core_run
use Rattle.tn_cores.specs.declared.client.messages.ClientMark as core_mark
use Rattle.tn_cores.specs.declared.{client.messages.Told.Told, messages.Message.Message}
use Rattle.tn_discipline.specs.Canon.{Canon, typed_entries}
use Rattle.tn_jobs.specs.Jobs.{Jobs}
use Rattle.tn_nvt.specs.{Spelling.spells, Prefixes.IsPrefixOf}
use Rattle.tn_server.specs.{Lines.entries, declared.openings.Approach.Approach}
use Rattle.tn_server.specs.Replies as server_says
use Rattle.tn_cores.specs.server.Marks as term
use Rattle.tn_cores.specs.server.Run as term_run
use Rattle.tn_cores.specs.declared.server.messages.ServerMark as term_mark
use Rattle.tn_world.proofs.lemmas.Histories.{keys_typed}

-- A STEP of two sessions: the terminal of the server's handled a message, or the core of the client's did;
-- with the mark for how far it was done
pub data Step : Type 0 where
  served : Message × term_mark.ServerMark → Step
  told : Told × core_mark.ClientMark → Step

-- the messages that the terminal handled, in order
abbrev pub server_steps : List Step → List (Message × term_mark.ServerMark)
server_steps [] = []
server_steps (served m ∷ order) = m ∷ server_steps order
server_steps (told m ∷ order) = server_steps order

-- the messages that the core handled, in order
abbrev pub client_steps : List Step → List (Told × core_mark.ClientMark)
client_steps [] = []
client_steps (served m ∷ order) = client_steps order
client_steps (told m ∷ order) = m ∷ client_steps order

-- how far both are
pub record Both : Type 0 where
  pub server : term_run.Run
  pub client : core_run.Run

-- before the first step: the opening messages were written or not, and a line has at most `limit` bytes at
-- the client
abbrev pub began : Bool → Canon → Approach → Jobs → ℕ → ℕ → ℕ → Both
began opens canon approach jobs width height limit =
    record {
      server = term.run_after_opening opens (term_run.start canon approach jobs);
      client = core_run.start width height limit;
    }

-- both machines run, each by its own steps
abbrev pub Runs : Both → List Step → Both → Type 0
Runs first order now =
    term.Runs first.server (server_steps order) now.server
    × core.Runs first.client (client_steps order) now.client

-- all that each has sent on the network
abbrev pub server_said : Both → List ℕ
server_said now = spells (server_says.items_said now.server.history)

abbrev pub client_said : Both → List ℕ
client_said now = spells (client_says.items_said now.client.sent)

-- The stream that each end has got so far begins what the other has sent so far: nothing was lost, added or
-- reordered on the way, and no byte came before it was sent.
pub record IsInTime (now : Both) : Type 0 where
  pub to_server : IsPrefixOf now.server.stream (client_said now)
  pub to_client : IsPrefixOf now.client.stream (server_said now)

-- THE THEOREM, of the facts of both runs: the entries of the server, and those of one local terminal for the
-- keys that were typed, and the commands sent, while what the client sent went to the network.
pub record LinesAreLocal (canon : Canon) (now : Both) : Type 0 where
  pub prefix : IsPrefixOf (entries now.server.history) (typed_entries canon (keys_typed canon.settings now.client.sent))
  pub complete : now.server.stream ≡ client_said now
      → entries now.server.history ≡ typed_entries canon (keys_typed canon.settings now.client.sent)
