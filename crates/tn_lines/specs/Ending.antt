-- The end of a talk, and what led to it.
use Rattle.std.specs.Prelude.{◌≡◌, ◌<◌, ◌≤◌, ◌⊎◌, ⊤, ℕ, Bool, true, false, IsTrue, List, Option, Some, None}
use Rattle.std.specs.Io.KnownBytes.{IsAtEnd}
use Rattle.tn_lines.specs.declared.talk.Over.{Over, TheVariants.{Closed, Broken, Left, Asked}}
use Rattle.tn_cores.specs.streams.{Foretelling.Failures, Telling.Calls}

-- the talk is over, since the connection is broken
abbrev pub has_broken : Option Over → Bool
has_broken (Some Broken) = true
has_broken _ = false

-- the connection is broken, unless this test holds
abbrev pub broken_unless : Bool → Option Over
broken_unless true = None
broken_unless false = Some Broken

-- if the talk is over since the service closed: the service had no byte left
abbrev pub ClosesAt : Option Over → Option (List ℕ) → Type 0
ClosesAt (Some Closed) rest = IsAtEnd rest
ClosesAt _ rest = ⊤

-- if it was foretold: not more reads are still to fail than before, and fewer if one failed
abbrev pub ReadsFail : Bool → Option Failures → Option Failures → Type 0
ReadsFail failed None new = ⊤
ReadsFail failed (Some old) None = ⊥
ReadsFail false (Some old) (Some new) = new.failing ≤ old.failing
ReadsFail true (Some old) (Some new) = new.failing < old.failing

-- if it is counted: not fewer writes have failed than before, and more if one failed
abbrev pub WritesFail : Bool → Option Calls → Option Calls → Type 0
WritesFail failed None new = new ≡ None
WritesFail failed (Some old) None = ⊤
WritesFail false (Some old) (Some new) = old.failed ≤ new.failed
WritesFail true (Some old) (Some new) = old.failed < new.failed

-- The talk went on, with these bytes of the service left; or it ended, by a user who left, at the end of the service,
-- or since a read or a write failed.
pub record Ends (over : Option Over) (rest : Option (List ℕ)) (ahead left : Option Failures)
    (before after : Option Calls) : Type 0 where
  pub read_failed : Bool
  pub write_failed : Bool
  pub closes : ClosesAt over rest
  pub reads : ReadsFail read_failed ahead left
  pub writes : WritesFail write_failed before after
  pub breaks : IsTrue (has_broken over) → IsTrue read_failed ⊎ IsTrue write_failed
