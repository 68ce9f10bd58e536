-- The most bytes that a line of a terminal may have, with its closing byte (MAX_CANON; XBD 11.1.6).
use Rattle.std.specs.Prelude.{ℕ, ◌-◌, Bool, ◌&&◌, nat_le}

-- the limit that every terminal has (_POSIX_MAX_CANON), and a new one
abbrev pub standard_limit : ℕ
standard_limit = 255

-- the greatest limit in this project
abbrev pub max_limit : ℕ
max_limit = 4095

-- a line can have this limit
abbrev pub is_limit : ℕ → Bool
is_limit limit = nat_le standard_limit limit && nat_le limit max_limit

-- the most bytes that a line counts before its closing byte
abbrev pub max_counted : ℕ → ℕ
max_counted limit = limit - 1
