-- What is seen of two sessions, and of the socket between them.
use Rattle.std.specs.Prelude.{◌≡◌, List, [], ◌∷◌, ◌++◌}
use Rattle.tn_cores.specs.{client.Bringing.Input, declared.faults.Ended.Ended}
use Rattle.tn_discipline.specs.declared.reads.Entry.{Entry}
use Rattle.tn_nvt.specs.Prefixes.{IsPrefixOf}
use Rattle.tn_session.specs.Transcripts.{Exchange, all_read, all_wrote}

-- a server's session: the bytes that its core read and wrote, step by step, the entries that the foreground job
-- took, and why it ended
pub record ServerSession : Type 0 where
  pub transcript : List Exchange
  pub entries_taken : List Entry
  pub ended : Ended

-- a client's session: the bytes that its core read and wrote, step by step, the keys that it got from its user,
-- with the commands and new lines between them, and why it ended
pub record ClientSession : Type 0 where
  pub transcript : List Exchange
  pub inputs : List Input
  pub ended : Ended

-- A STEP of two sessions: one of the server's, or one of the client's
pub data Step : Type 0 where
  served : Exchange → Step
  told : Exchange → Step

-- the server's steps in this order
abbrev pub server_steps : List Step → List Exchange
server_steps [] = []
server_steps (served x ∷ order) = x ∷ server_steps order
server_steps (told x ∷ order) = server_steps order

-- the client's steps in this order
abbrev pub client_steps : List Step → List Exchange
client_steps [] = []
client_steps (served x ∷ order) = client_steps order
client_steps (told x ∷ order) = x ∷ client_steps order

-- the bytes that each end has read begin those that the other has written
pub record IsInTime (server client : List Exchange) : Type 0 where
  pub to_server : IsPrefixOf (all_read server) (all_wrote client)
  pub to_client : IsPrefixOf (all_read client) (all_wrote server)

-- THE SOCKET, of two transcripts. There is one order of the steps of both, such that after each step the
-- bytes that either has read so far begin those that the other has written so far: nothing was lost, added or
-- reordered on the way, and no byte came before it was written.
pub record IsCarried (server client : List Exchange) : Type 0 where
  pub order : List Step
  pub of_server : server_steps order ≡ server
  pub of_client : client_steps order ≡ client
  pub in_time : (done later : List Step) → order ≡ done ++ later
      → IsInTime (server_steps done) (client_steps done)
