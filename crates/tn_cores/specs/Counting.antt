-- Counts, and which of several ends counts.
use Rattle.std.specs.Prelude.{ℕ, ◌+◌, ◌-◌, ◌^◌, min}
use Rattle.tn_cores.specs.declared.faults.Ended.{Ended, TheVariants.{HangUp, Done, Fault}}

-- a count that has reached the greatest number stays there
abbrev pub one_more : ℕ → ℕ
one_more n = min (n + 1) (2 ^ 64 - 1)

-- the first end counts
abbrev pub first_end : Ended → Ended → Ended
first_end HangUp ended = ended
first_end Done ended = Done
first_end (Fault fault) ended = Fault fault
