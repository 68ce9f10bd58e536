-- The room that a vector has left.
use Rattle.std.specs.Prelude.{ℕ, ◌+◌, ◌<◌, Vec, vec_len, vec_capacity}

-- this number of bytes more does not fit what is allocated
abbrev pub LacksRoom : {Z : Type 0} → Vec ℕ Z → ℕ → Type 0
LacksRoom out more = vec_capacity out < vec_len out + more
