-- The jobs of a session that is joined to a service.
use Rattle.std.specs.Prelude.{◌≡◌, ℕ, ◌+◌, IsFalse, IfSome, Option, Some, None, List}
use Rattle.tn_discipline.specs.declared.reads.Entry.{Entry}
use Rattle.tn_serve.specs.services.{Sending.{SendsEntry, WantsMemory, silent}, Showing.Shows}
use Rattle.tn_serve.specs.declared.services.{cutting.LineFormat.LineFormat, joining.Gateway.Gateway}
use Rattle.tn_serve.specs.declared.services.{makers.Gateways.Gateways, sending.Way.TheVariants.Open}
use Rattle.tn_serve.specs.declared.services.joining.Gateway.TheVariants as side
use Rattle.tn_jobs.specs.declared.{reactions.Reaction.Reaction, verdicts.After.TheVariants.{Stay, Done}}
use Rattle.tn_cores.specs.streams.{Foretelling.Failures, Known.known_reader, Telling.Calls}
use Rattle.tn_cores.specs.declared.streams.window.WindowSize.{WindowSize}

-- the number of jobs to come of something that is there, or not
abbrev pub count : {A : Type 0} → Option A → ℕ
count None = 0
count (Some x) = 1

-- the number of jobs to come if they are made over a connection: both, until that was tried
abbrev pub left_to_make : {R W A : Type 0} → Option A → Option (Gateways R W) → ℕ
left_to_make (Some hook) jobs = 2
left_to_make None (Some jobs) = count jobs.writer + count jobs.reader
left_to_make None None = 0

-- the next of this number of jobs to come: the one that shows is the last
abbrev pub GivesSide : {R W : Type 0} → ℕ → Gateway R W → Type 0
GivesSide left (side.Sends sending) = Unit {0}
GivesSide left (side.Shows showing) = left ≡ 1

-- the job has the reader or the writer that was there for it, and its lines go so
abbrev pub GivesPart : {R W : Type 0} → Option R → Option W → LineFormat → Gateway R W → Type 0
GivesPart reader writer lines (side.Sends sending) =
    (writer ≡ Some sending.writer) × (sending.lines ≡ lines)
GivesPart reader writer lines (side.Shows showing) = reader ≡ Some showing.reader

-- if its connection was still to be made, such a writer is its, and its lines go so
abbrev pub GivesReached : {R W A : Type 0} → (W → Type 0) → LineFormat → Option A → Gateway R W → Type 0
GivesReached reached lines (Some hook) (side.Sends sending) =
    reached sending.writer × (sending.lines ≡ lines)
GivesReached reached lines (Some hook) (side.Shows showing) = Unit {0}
GivesReached reached lines None job = Unit {0}

-- if the connection was still to be tried, the jobs are both of it, with such a writer if one is to come;
-- else they are as they were
abbrev pub Connects : {R W A : Type 0} → (W → Type 0) → LineFormat → Option A → Option (Gateways R W)
    → Option (Gateways R W) → Type 0
Connects {R = R} {W = W} reached lines (Some hook) old new =
    (made : Gateways R W) × (new ≡ Some made) × (count made.writer + count made.reader ≡ 2)
    × (made.lines ≡ lines) × IfSome made.writer reached
Connects reached lines None old new = new ≡ old

-- the job has done nothing yet
abbrev pub IsFresh : {R W : Type 0} → Gateway R W → Type 0
IsFresh (side.Sends sending) = sending.way ≡ Open
IsFresh (side.Shows showing) = IsFalse showing.waits

-- an entry goes to the job in the foreground; the other one is never asked
abbrev pub Reacts : {R W : Type 0} → (W → Option (List ℕ)) → (W → Option Calls)
    → Gateway R W → Entry → Reaction → Gateway R W → Type 0
Reacts contents told (side.Sends old) entry reaction (side.Sends new) =
    SendsEntry contents told old entry reaction new
Reacts contents told (side.Sends old) entry reaction (side.Shows new) = ⊥
Reacts contents told (side.Shows old) entry reaction new =
    (reaction ≡ silent Stay) × (new ≡ side.Shows old)

-- memory may run out for a line, on its way to the service or as the text that none is sent any more; and for
-- what is shown, at a step
abbrev pub MayRefuse : {R W : Type 0} → Gateway R W → Option Entry → Type 0
MayRefuse (side.Sends sending) (Some entry) = WantsMemory sending entry
MayRefuse (side.Sends sending) None = ⊥
MayRefuse (side.Shows showing) (Some entry) = ⊥
MayRefuse (side.Shows showing) None = Unit {0}

-- a step is one of the job in the background; the other one makes none
abbrev pub Steps : {R W : Type 0} → (R → Option (List ℕ)) → (R → Option Failures)
    → (R → Option (List WindowSize)) → (R → List (List ℕ)) → Gateway R W → Reaction → Gateway R W → Type 0
Steps remaining foretold sizes words (side.Shows old) reaction (side.Shows new) =
    Shows old.waits reaction.text reaction.after new.waits
    (known_reader remaining foretold sizes words old.reader)
    (known_reader remaining foretold sizes words new.reader)
Steps remaining foretold sizes words (side.Shows old) reaction (side.Sends new) = ⊥
Steps remaining foretold sizes words (side.Sends old) reaction new =
    (reaction ≡ silent Done) × (new ≡ side.Sends old)
