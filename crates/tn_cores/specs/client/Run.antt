-- The effect of the messages: a fold over those that were handled, over the history of the client end.
use Rattle.std.specs.Prelude.{◌≡◌, ℕ, Bool, true, false, List, [], ◌++◌}
use Rattle.tn_client.specs.Events.{History, begun, next, typed, resized, gets, items}
use Rattle.tn_linemode.specs.{Folding.after_all, Prefixes.IsRead}
use Rattle.tn_cores.specs.{client.Commands.event_of, declared.faults.SessionFault.SessionFault}
use Rattle.tn_cores.specs.declared.client.{messages.Origin.Origin, progress.ClientProgress.ClientProgress}
use Rattle.tn_cores.specs.declared.client.messages.{Origin.TheVariants.{Keys, Net}, Told.Told}
use Rattle.tn_cores.specs.declared.messages.Message.{Message, TheVariants.{Piece, Resized, Asked}}
use Rattle.tn_cores.specs.declared.streams.{control.Control.Control, window.WindowSize.WindowSize}
use Rattle.tn_cores.specs.client.Counting as counting
use Rattle.tn_nvt.specs.declared.items.Item.{Item}

-- All that has happened at the core: at its client end, with the network's pieces joined; the first part of
-- that, whose replies go to the network; and how far the session is.
pub record Run : Type 0 where
  pub history : History
  pub sent : History
  pub stream : List ℕ
  pub progress : ClientProgress

-- these keys were typed, one after another
abbrev pub types : History → List ℕ → History
types h keys = after_all (λ k key. next k (typed key)) h keys

-- once no more keys come, no more replies go to the network
abbrev pub sent_after : Bool → History → History → History
sent_after true sent h = sent
sent_after false sent h = h

-- the history goes on to this one
abbrev pub goes_on : History → Run → Run
goes_on h c = record c { history = h; sent = sent_after c.progress.closed c.sent h }

-- the run with its progress changed by this step
abbrev pub turns : (ClientProgress → ClientProgress) → Run → Run
turns step c = record c { progress = step c.progress }

-- the run after a piece of keys
abbrev pub type_keys : List ℕ → Run → Run
type_keys keys c = turns counting.after_piece (goes_on (types c.history keys) c)

-- the run after a piece of the network, which completes these items
abbrev pub feed : List ℕ → List Item → Run → Run
feed piece xs c =
    record (turns counting.after_piece (goes_on (gets c.history xs) c)) { stream = c.stream ++ piece }

-- these are the items that the piece completes in the stream
abbrev pub Reads : Run → List ℕ → List Item → Type 0
Reads c piece xs = IsRead (c.stream ++ piece) (items c.history ++ xs)

-- the window has another size
abbrev pub resize : WindowSize → Run → Run
resize size c = goes_on (next c.history (resized size.width size.height)) c

-- the user asks for this between keys
abbrev pub send : Control → Run → Run
send control c = goes_on (next c.history (event_of control)) c

-- something failed
abbrev pub fail : SessionFault → Run → Run
fail f c = turns (counting.after_failure f) c

-- a piece of keys is typed, and one from the network is fed
abbrev pub TakesPiece : Run → Origin → List ℕ → Run → Type 0
TakesPiece c Keys piece new = new ≡ type_keys piece c
TakesPiece c Net piece new = (xs : List Item) × Reads c piece xs × (new ≡ feed piece xs c)

-- only the keys have a user who asks
abbrev pub Asks : Run → Origin → Control → Run → Type 0
Asks c Keys control new = new ≡ send control c
Asks c Net control new = new ≡ c

-- a message that has its effect
abbrev pub Acts : Run → Origin → Message → Run → Type 0
Acts c from (Piece piece) new = TakesPiece c from piece new
Acts c from (Resized size) new = new ≡ resize size c
Acts c from (Asked control) new = Asks c from control new
Acts c from m new = new ≡ turns (counting.after_message from m) c

-- the message has its effect, unless all is over
abbrev pub ActsUnless : Bool → Run → Told → Run → Type 0
ActsUnless true c told new = new ≡ c
ActsUnless false c told new = Acts c told.from told.message new

-- a message that was done wholly
abbrev pub Handles : Run → Told → Run → Type 0
Handles c told new = ActsUnless c.progress.over c told new

-- the core before the first message, with a window of this size, and lines of at most this number of bytes
abbrev pub start : ℕ → ℕ → ℕ → Run
start width height limit =
    record {
      history = begun width height limit;
      sent = begun width height limit;
      stream = [];
      progress = counting.nothing_yet;
    }
