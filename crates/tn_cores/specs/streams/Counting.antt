-- Calls that are counted, and what the count shows.
use Rattle.std.specs.Prelude.{ℕ, ◌+◌, nat_lt, ◌&&◌, min, Bool, true, false, Option, Some, None}
use Rattle.tn_cores.specs.{streams.Telling.Calls, declared.streams.tally.Tally.Tally}

-- no call was made
abbrev pub no_calls : Option Calls
no_calls = Some (record { made = 0; failed = 0 })

-- a count that has reached the greatest number shows nothing
abbrev pub told_if : Bool → Calls → Option Calls
told_if true calls = Some calls
told_if false calls = None

-- the calls of a tally, if it counts them still
abbrev pub told_by : Tally → Option Calls
told_by t =
    told_if (nat_lt t.made 18446744073709551615 && nat_lt t.failed 18446744073709551615)
    (record { made = t.made; failed = t.failed })

-- the number of failed calls after one more call
abbrev pub failed_after : ℕ → Bool → ℕ
failed_after failed true = min (failed + 1) 18446744073709551615
failed_after failed false = failed
