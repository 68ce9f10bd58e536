-- The number of warnings to a user.
use Rattle.std.specs.Prelude.{ℕ, ◌+◌}
use Rattle.tn_connect.specs.declared.warnings.Warnings.{Warnings, Empty, More'}

-- the number of these warnings
abbrev pub count_in : Warnings → ℕ
count_in Empty = 0
count_in (More' marker before) = count_in before + 1
