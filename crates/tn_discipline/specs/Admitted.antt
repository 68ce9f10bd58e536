-- The keys that a line has room for (MAX_CANON; XBD 11.1.6). The limit is how many bytes a line has at most,
-- with its closing byte; the count is how many bytes the half-typed line has.
use Rattle.std.specs.Prelude.{ℕ, ◌+◌, ◌-◌, Bool, false, ◌==◌, List, [], ◌∷◌, if◌then◌else◌}
use Rattle.tn_discipline.specs.{Limits.max_counted, declared.keys.Role.Role}
use Rattle.tn_discipline.specs.declared.keys.Role.TheVariants as role

-- an ordinary byte that comes while the count is full is dropped
abbrev pub is_dropped : ℕ → ℕ → Role → Bool
is_dropped limit count (role.Ordinary byte) = count == max_counted limit
is_dropped limit count _ = false

-- the count after one more admitted key: KILL and the keys that close a line leave none
abbrev pub next_count : ℕ → Role → ℕ
next_count count (role.Ordinary byte) = count + 1
next_count count role.Erase = count - 1
next_count count (role.Signal sig) = count
next_count count role.Ignored = count
next_count count _ = 0

-- the admitted keys, if the count before them is this
abbrev pub admitted_after : ℕ → ℕ → List Role → List Role
admitted_after limit count [] = []
admitted_after limit count (r ∷ roles) =
    if is_dropped limit count r then admitted_after limit count roles
    else r ∷ admitted_after limit (next_count count r) roles

-- the count that these keys leave, if the count before them is this
abbrev pub count_after : ℕ → ℕ → List Role → ℕ
count_after limit count [] = count
count_after limit count (r ∷ roles) =
    if is_dropped limit count r then count_after limit count roles
    else count_after limit (next_count count r) roles

-- the keys without those that are dropped
abbrev pub admitted_roles : ℕ → List Role → List Role
admitted_roles limit roles = admitted_after limit 0 roles

-- the count that these keys leave
abbrev pub count_of : ℕ → List Role → ℕ
count_of limit roles = count_after limit 0 roles
