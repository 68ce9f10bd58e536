-- The text that the job in the background shows at a step, of the service's bytes.
use Rattle.std.specs.Prelude.{◌≡◌, ◌<◌, ◌≤◌, ◌⊎◌, ⊤, ℕ, Bool, Option, Some, None, List, [], ◌∷◌, ◌++◌, length}
use Rattle.std.specs.Io.KnownBytes.{Consumes, IsAtEnd}
use Rattle.tn_serve.specs.services.NewLines.{ends_by_return, new_lines, waiting}
use Rattle.tn_jobs.specs.declared.verdicts.After.{After, TheVariants.{Stay, Done}}
use Rattle.tn_cores.specs.streams.{Foretelling.{Failures, HasCome}, Known.KnownReader}

-- the number of the step's reads, which are one, that gave a byte
abbrev pub giving : List ℕ → ℕ
giving [] = 0
giving (byte ∷ bytes) = 1

-- if it was foretold: a read is to fail
abbrev pub IsToFail : Option Failures → Type 0
IsToFail None = ⊤
IsToFail (Some failures) = 0 < failures.failing

-- This is shown of the bytes that waited and of those that were given, and a carriage return at their end
-- waits.
pub record ShowsGiven (waited : Bool) (given text : List ℕ) (waits : Bool) : Type 0 where
  pub shown : text ++ waiting waits ≡ new_lines (waiting waited ++ given)
  pub last : waits ≡ ends_by_return given

-- The next bytes are shown, or, if the read was interrupted, those that waited; and the job goes on.
pub record ShowsBytes (waited : Bool) (text : List ℕ) (waits : Bool) (old new : KnownReader) : Type 0 where
  pub given : List ℕ
  pub came : Consumes old.bytes new.bytes given
  pub few : length given ≤ 1024
  pub read : HasCome 1 (giving given) old.failures new.failures
  pub shows : ShowsGiven waited given text waits

-- The bytes that waited are shown, and nothing any more: the service has closed its side, or the read failed.
pub record ShowsNoMore (waited : Bool) (text : List ℕ) (waits : Bool) (old new : KnownReader) : Type 0 where
  pub left : Consumes old.bytes new.bytes []
  pub shows : ShowsGiven waited [] text waits
  pub why : IsAtEnd new.bytes ⊎ IsToFail old.failures

-- this text was written, and this comes after it; before and after, a carriage return waits or none
abbrev pub Shows : Bool → List ℕ → After → Bool → KnownReader → KnownReader → Type 0
Shows waited text Stay waits old new = ShowsBytes waited text waits old new
Shows waited text Done waits old new = ShowsNoMore waited text waits old new
Shows waited text _ waits old new = ⊥
