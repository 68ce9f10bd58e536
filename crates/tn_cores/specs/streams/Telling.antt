-- The known facts of a reader's or a writer's calls.
use Rattle.std.specs.Prelude.{◌≡◌, ◌≢◌, ℕ, ◌+◌, ◌<◌, ◌≤◌, Bool, IsFalse, List, length, Option, Some, None}
use Rattle.std.specs.{Prelude.{Result, Ok, Err, ⊤, ◌⊎◌}, IoError.error_kind, declared.io.Error.Error}
use Rattle.std.specs.declared.io.ErrorKind.TheVariants.{Interrupted}

-- the number of calls that were made, and the number of them that failed
pub record Calls : Type 0 where
  pub made : ℕ
  pub failed : ℕ

-- one that a signal interrupted has not failed
abbrev pub CountsError : Error → ℕ → ℕ → Type 0
CountsError e old new = (error_kind e ≡ Interrupted → new ≡ old)
    × (error_kind e ≢ Interrupted → new ≡ old + 1)

-- the number of failed calls after a read with this result
abbrev pub CountsRead : Result ℕ Error → ℕ → ℕ → Type 0
CountsRead (Ok n) old new = new ≡ old
CountsRead (Err e) old new = CountsError e old new

-- a write that took none of the bytes that it was handed has failed
abbrev pub CountsWrite : List ℕ → Result ℕ Error → ℕ → ℕ → Type 0
CountsWrite bytes (Ok n) old new = (n ≢ 0 → new ≡ old) × (n ≡ 0 → 0 < length bytes → new ≡ old + 1)
CountsWrite bytes (Err e) old new = CountsError e old new

-- one call more, if calls are counted; if none are counted, none are after it
abbrev pub TellsCall : (ℕ → ℕ → Type 0) → Option Calls → Option Calls → Type 0
TellsCall counts None new = new ≡ None
TellsCall counts (Some old) None = ⊤
TellsCall counts (Some old) (Some new) = (new.made ≡ old.made + 1) × counts old.failed new.failed

-- if calls are counted: this number of calls was made, and none of them failed
abbrev pub HasMade : ℕ → Option Calls → Option Calls → Type 0
HasMade count None new = new ≡ None
HasMade count (Some old) None = ⊤
HasMade count (Some old) (Some new) = (new.made ≡ old.made + count) × (new.failed ≡ old.failed)

-- if calls are counted: a call failed, or this number was made
abbrev pub HasFailed : ℕ → Option Calls → Option Calls → Type 0
HasFailed most None new = ⊤
HasFailed most (Some old) None = ⊤
HasFailed most (Some old) (Some new) = (new.failed ≡ old.failed + 1) ⊎ (new.made ≡ old.made + most)

-- If calls are counted: no call is forgotten, and if not all went well, one of them failed, or this number
-- was made.
abbrev pub AccountsFor : ℕ → Bool → Option Calls → Option Calls → Type 0
AccountsFor most well None new = new ≡ None
AccountsFor most well (Some old) None = ⊤
AccountsFor most well (Some old) (Some new) =
    (old.made ≤ new.made) × (old.failed ≤ new.failed)
    × (IsFalse well → (old.failed < new.failed) ⊎ (old.made + most ≤ new.made))

-- if calls are counted: some of the calls failed, or this number was made
abbrev pub SomeFailed : ℕ → Option Calls → Option Calls → Type 0
SomeFailed most None new = ⊤
SomeFailed most (Some old) None = ⊤
SomeFailed most (Some old) (Some new) = (old.failed < new.failed) ⊎ (old.made + most ≤ new.made)
