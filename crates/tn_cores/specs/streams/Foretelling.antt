-- The facts that a reader foretells of its calls, as it foretells the bytes that it will give.
use Rattle.std.specs.Prelude.{◌≡◌, ◌≢◌, ℕ, ◌+◌, ◌<◌, ◌≤◌, Option, Some, None, Result, Ok, Err, ⊤, ◌⊎◌}
use Rattle.std.specs.{IoError.error_kind, declared.io.{Error.Error, ErrorKind.TheVariants.Interrupted}}

-- the number of calls to come that will fail, and the number that a signal will interrupt
pub record Failures : Type 0 where
  pub failing : ℕ
  pub interrupted : ℕ

-- one that a signal interrupted has not failed
abbrev pub ForetellsError : Error → Failures → Failures → Type 0
ForetellsError e old new =
    (error_kind e ≡ Interrupted → (old.failing ≡ new.failing) × (old.interrupted ≡ new.interrupted + 1))
    × (error_kind e ≢ Interrupted → (old.failing ≡ new.failing + 1) × (old.interrupted ≡ new.interrupted))

-- one call less to come, if it was foretold; a reader that foretells nothing goes on to foretell nothing
abbrev pub ForetellsCall : Result ℕ Error → Option Failures → Option Failures → Type 0
ForetellsCall answer None new = new ≡ None
ForetellsCall answer (Some old) None = ⊥
ForetellsCall (Ok n) (Some old) (Some new) = new ≡ old
ForetellsCall (Err e) (Some old) (Some new) = ForetellsError e old new

-- if it was foretold: of the calls, this number gave something, the others were interrupted, and none failed
abbrev pub HasCome : ℕ → ℕ → Option Failures → Option Failures → Type 0
HasCome calls gave None new = new ≡ None
HasCome calls gave (Some old) None = ⊥
HasCome calls gave (Some old) (Some new) =
    (old.failing ≡ new.failing) × (gave + old.interrupted ≡ calls + new.interrupted)

-- if it was foretold: a call will fail, or this number will give something or be interrupted
abbrev pub WillFail : ℕ → ℕ → Option Failures → Type 0
WillFail most gave None = ⊤
WillFail most gave (Some f) = (0 < f.failing) ⊎ (most ≤ gave + f.interrupted)
