-- A reply that lacks room is not empty.
use Rattle.std.proofs.Common.{◌≢◌, ℕ, Vec, []}
use Rattle.tn_nvt.proofs.lemmas.Lacking.{lacks_items}
use Rattle.tn_server.specs.{Calls.End, Events.Event, Steps.{says, LacksRoomFor}}

pub says_something : {Z : Type 0} (old : End) (e : Event) (out : Vec ℕ Z) → LacksRoomFor old e out → says old e ≢ []
says_something old e out lacks = lacks_items out (says old e) lacks
