-- The state after a call that writes bytes one write after another.
use Rattle.std.specs.{Prelude.{◌≡◌, ℕ, Bool, true, false, List, ◌++◌, Option}, Io.KnownBytes.Appends}
use Rattle.tn_cores.specs.streams.Telling.{Calls, AccountsFor}

-- all of these bytes were written, or the first of them
abbrev pub Writes : Bool → Option (List ℕ) → Option (List ℕ) → List ℕ → Type 0
Writes true old new bytes = Appends old new bytes
Writes false old new bytes =
    (front : List ℕ) × (rest : List ℕ) × (bytes ≡ front ++ rest) × Appends old new front

-- the most writes for what one call sends
abbrev pub max_writes : ℕ
max_writes = 18446744073709551615

-- if not all went well, a write failed
abbrev pub Tells : Bool → Option Calls → Option Calls → Type 0
Tells well before after = AccountsFor max_writes well before after
