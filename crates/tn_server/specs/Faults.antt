-- Why calls are refused.
use Rattle.std.specs.Prelude.{◌≡◌, ◌≢◌, ◌<◌, ◌⊎◌, IsTrue, Option, Some, None, [], length}
use Rattle.tn_discipline.specs.{Keys.gives_entry}
use Rattle.tn_nvt.specs.declared.items.Item.{Item}
use Rattle.tn_pty.specs.Terminal.{max_waiting}
use Rattle.tn_pty.specs.declared.pty.PtyFault.TheVariants as pty
use Rattle.tn_linemode.specs.Words.{IsList}
use Rattle.tn_server.specs.{Events.{Event, got, History}, Replies.replies, Terms.{options, payload_at}}
use Rattle.tn_server.specs.{Lines.{role_of_item, waiting}, declared.faults.ServerFault.ServerFault}
use Rattle.tn_server.specs.declared.faults.ServerFault.TheVariants.{Pty, Memory, Failed, Char, NotOn}

-- an event makes the server send something
abbrev pub SaysSomething : History → Event → Type 0
SaysSomething h e = replies h e ≢ []

-- why an item is refused: too many entries wait for the one that it makes; fewer wait, and memory runs out
-- for that one; or it runs out for what is to be sent, or for a list
abbrev pub IsCause : History → Item → ServerFault → Type 0
IsCause h item (Pty pty.TooFarAhead) =
    IsTrue (gives_entry (role_of_item h item)) × (length (waiting h) ≡ max_waiting)
IsCause h item (Pty pty.Memory) =
    IsTrue (gives_entry (role_of_item h item)) × (length (waiting h) < max_waiting)
IsCause h item (Pty pty.Closed) = Unit {0}
IsCause h item Memory = SaysSomething h (got item) ⊎ IsList (payload_at (options h) item)
IsCause h item Failed = ⊥
IsCause h item (Char fault) = ⊥
IsCause h item NotOn = ⊥

-- an item is refused by the pair or for lack of memory
abbrev pub IsOfItem : ServerFault → Type 0
IsOfItem (Pty fault) = Unit {0}
IsOfItem Memory = Unit {0}
IsOfItem Failed = ⊥
IsOfItem (Char fault) = ⊥
IsOfItem NotOn = ⊥

-- a piece is refused for no special character and no forward mask
abbrev pub IsOfPiece : ServerFault → Type 0
IsOfPiece (Char fault) = ⊥
IsOfPiece NotOn = ⊥
IsOfPiece f = Unit {0}

-- a call that is not refused for such a cause is refused only when out of memory
abbrev pub IsFault : Option ServerFault → ServerFault → Type 0
IsFault (Some cause) f = f ≡ cause
IsFault None f = f ≡ Memory
