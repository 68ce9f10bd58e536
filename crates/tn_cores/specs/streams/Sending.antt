-- Whether more may come from a writer's end.
use Rattle.std.specs.Prelude.{◌≡◌, Option, Some, None}

-- more may come, or none does; something was written after the writer was finished
pub data Sending : Type 0 where
  going : Sending
  finished : Sending
  broken : Sending

-- after a write, if it is known
abbrev pub written_on : Option Sending → Option Sending
written_on None = None
written_on (Some going) = Some going
written_on (Some finished) = Some broken
written_on (Some broken) = Some broken

-- after it was finished, if it is known
abbrev pub finished_on : Option Sending → Option Sending
finished_on None = None
finished_on (Some going) = Some finished
finished_on (Some finished) = Some finished
finished_on (Some broken) = Some broken

-- if it is known: a writer from which more might come still is so
abbrev pub StaysOpen : Option Sending → Option Sending → Type 0
StaysOpen old new = old ≡ Some going → new ≡ Some going

-- if it is known: it was finished, and nothing was written after that
abbrev pub IsFinished : Option Sending → Option Sending → Type 0
IsFinished old new = old ≡ Some going → new ≡ Some finished
