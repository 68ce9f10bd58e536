-- The steps of each of two runs, in two parts of an order.
use Rattle.std.proofs.Common.{◌≡◌, List, [], ◌∷◌, ◌++◌, refl, ap}
use Rattle.tn_cores.specs.declared.client.messages.ClientMark as core_mark
use Rattle.tn_cores.specs.declared.{client.messages.Told.Told, messages.Message.Message}
use Rattle.tn_theorems.proofs.of_sessions.Joint.{Step, served, told, server_steps, client_steps}
use Rattle.tn_cores.specs.declared.server.messages.ServerMark as term_mark

pub server-append : (xs ys : List Step) → server_steps (xs ++ ys) ≡ server_steps xs ++ server_steps ys
server-append [] ys = refl
server-append (served m ∷ xs) ys = ap (λ (l : List (Message × term_mark.ServerMark)). m ∷ l) (server-append xs ys)
server-append (told m ∷ xs) ys = server-append xs ys

pub client-append : (xs ys : List Step) → client_steps (xs ++ ys) ≡ client_steps xs ++ client_steps ys
client-append [] ys = refl
client-append (served m ∷ xs) ys = client-append xs ys
client-append (told m ∷ xs) ys = ap (λ (l : List (Told × core_mark.ClientMark)). m ∷ l) (client-append xs ys)
