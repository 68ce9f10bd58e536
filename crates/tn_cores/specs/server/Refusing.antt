-- Why a call of the end is refused within a message.
use Rattle.std.specs.Prelude.{◌≡◌, ◌≢◌, ◌⊎◌, ℕ, Bool, true, false, Option, Some, None, List, [], ◌∷◌, ◌++◌}
use Rattle.std.specs.List.{concat}
use Rattle.tn_nvt.specs.declared.items.Item.{Item}
use Rattle.tn_pty.specs.declared.pty.PtyFault.{PtyFault}
use Rattle.tn_pty.specs.declared.pty.PtyFault.TheVariants as pty
use Rattle.tn_server.specs.{Course.in_parts, Screen.queue}
use Rattle.tn_server.specs.Events.{History, next, took, wrote, echo_set, gets, items}
use Rattle.tn_server.specs.{Faults.{IsCause, SaysSomething}, declared.faults.ServerFault.ServerFault}
use Rattle.tn_server.specs.declared.faults.ServerFault.TheVariants.{Pty, Memory, Failed, Char, NotOn}
use Rattle.tn_cores.specs.server.Run.{Run, Reads, verdict, writes, in_foreground, echo_by, echoed}
use Rattle.tn_cores.specs.{Pieces.WantsMemoryWithin, declared.messages.Message.Message}
use Rattle.tn_cores.specs.declared.messages.Message.TheVariants.{Refused, Left, Resized, Asked, Piece, HangUp}
use Rattle.tn_cores.specs.declared.messages.Message.TheVariants.{ReadFailed, Take, Said}

-- symbols wait to be sent
abbrev pub SymbolsWait : History → Type 0
SymbolsWait h = queue h ≢ []

-- symbols wait once this part of the text was written, after those before it were, and pulled
abbrev pub SymbolsWaitWithin : History → List ℕ → Type 0
SymbolsWaitWithin h text =
    (done : List (List ℕ)) × (part : List ℕ) × (left : List ℕ) × (concat done ++ (part ++ left) ≡ text)
    × SymbolsWait (next (in_parts h done) (wrote part))

-- a text that is written, and one that is not
abbrev pub WaitsWithText : Bool → History → List ℕ → Type 0
WaitsWithText true h text = SymbolsWaitWithin h text
WaitsWithText false h text = SymbolsWait h

-- the echo for which a job asked is announced to the client
abbrev pub TellsEcho : Option Bool → History → Type 0
TellsEcho None h = ⊥
TellsEcho (Some on) h = SaysSomething h (echo_set on)

-- the echo is announced, or symbols wait with the text after that
abbrev pub WaitsWithReaction : Option Bool → Bool → History → List ℕ → Type 0
WaitsWithReaction echo shown h text = TellsEcho echo h ⊎ WaitsWithText shown (echoed echo h) text

-- a request that no entry answers is announced by GA, or symbols wait
abbrev pub WaitsWithRequest : History → Type 0
WaitsWithRequest h = SaysSomething h took ⊎ SymbolsWait h

-- one of the piece's items was refused for its cause, once those before it were done
abbrev pub RefusesAtItem : Run → List ℕ → ServerFault → Type 0
RefusesAtItem c piece f =
    (done : List Item) × (item : Item) × (left : List Item)
    × Reads c piece (done ++ item ∷ left) × IsCause (gets c.history done) item f

-- a byte of the piece is a parameter that is kept
abbrev pub RefusesAtByte : Run → List ℕ → Type 0
RefusesAtByte c piece = WantsMemoryWithin c.stream (items c.history) piece

-- the items that are sent once a request was asked again, if one waits
abbrev pub WaitsIf : Bool → History → Type 0
WaitsIf true h = WaitsWithRequest h
WaitsIf false h = SymbolsWait h

-- something is to be sent once all items of the piece were done
abbrev pub RefusesAfterItems : Run → List ℕ → Type 0
RefusesAfterItems c piece =
    (xs : List Item) × Reads c piece xs × WaitsIf c.progress.asks (gets c.history xs)

-- the pair of a session is open
abbrev pub IsPairCause : Run → List ℕ → PtyFault → Type 0
IsPairCause c piece pty.TooFarAhead = RefusesAtItem c piece (Pty pty.TooFarAhead)
IsPairCause c piece pty.Memory = RefusesAtItem c piece (Pty pty.Memory)
IsPairCause c piece pty.Closed = ⊥

-- a piece is refused by the pair; or memory runs out for an item, a parameter, or what is sent after them
abbrev pub IsPieceCause : Run → List ℕ → ServerFault → Type 0
IsPieceCause c piece (Pty f) = IsPairCause c piece f
IsPieceCause c piece Memory =
    RefusesAtItem c piece Memory ⊎ (RefusesAtByte c piece ⊎ RefusesAfterItems c piece)
IsPieceCause c piece Failed = ⊥
IsPieceCause c piece (Char f) = ⊥
IsPieceCause c piece NotOn = ⊥

-- any other message is refused only when out of memory, if something is to be sent
abbrev pub IsRefusalCause : Run → Message → ServerFault → Type 0
IsRefusalCause c (Piece piece) f = IsPieceCause c piece f
IsRefusalCause c HangUp f = (f ≡ Memory) × SymbolsWait c.history
IsRefusalCause c ReadFailed f = (f ≡ Memory) × SymbolsWait c.history
IsRefusalCause c Take f = (f ≡ Memory) × WaitsWithRequest c.history
IsRefusalCause c (Said id text after) f =
    (f ≡ Memory)
    × WaitsWithReaction (echo_by (in_foreground c id.0) after) (writes (verdict c id.0 text after)) c.history text
IsRefusalCause c Refused f = (f ≡ Memory) × SymbolsWait c.history
IsRefusalCause c Left f = (f ≡ Memory) × SymbolsWait c.history
IsRefusalCause c (Resized size) f = (f ≡ Memory) × SymbolsWait c.history
IsRefusalCause c (Asked control) f = (f ≡ Memory) × SymbolsWait c.history
