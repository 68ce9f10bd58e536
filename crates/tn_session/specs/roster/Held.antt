-- The numbers that a roster has given to sessions, and the most sessions at once.
use Rattle.std.specs.Prelude.{◌≡◌, ◌≢◌, ◌≤◌, ◌+◌, ◌⊎◌, ⊤, ℕ, Bool, IsTrue, IsFalse, Option, None, List}
use Rattle.std.specs.Prelude.{count_by, is_some, slice_index_or}

-- the sessions of a roster
pub record Held : Type 0 where
  -- the most numbers that may be held
  pub limit : ℕ
  -- at each number, whether it is held
  pub numbers : List (Option ⊤)

-- the number is held
abbrev pub is_held : Held → ℕ → Bool
is_held roster number = is_some (slice_index_or roster.numbers number None)

-- the number of numbers that are held
abbrev pub held_count : Held → ℕ
held_count roster = count_by is_some roster.numbers

-- at least one session, and at most sixty-four
abbrev pub IsLimit : ℕ → Type 0
IsLimit limit = (1 ≤ limit) × (limit ≤ 64)

-- This number was free and is held; the others are as they were.
pub record Enters (old new : Held) (number : ℕ) : Type 0 where
  pub was_free : IsFalse (is_held old number)
  pub held : IsTrue (is_held new number)
  pub others : (other : ℕ) → other ≢ number → is_held new other ≡ is_held old other
  pub one_more : held_count new ≡ held_count old + 1
  pub same_limit : new.limit ≡ old.limit

-- This number was held and is free; the others are as they were.
pub record Leaves (old new : Held) (number : ℕ) : Type 0 where
  pub was_held : IsTrue (is_held old number)
  pub free : IsFalse (is_held new number)
  pub others : (other : ℕ) → other ≢ number → is_held new other ≡ is_held old other
  pub one_less : held_count new + 1 ≡ held_count old
  pub same_limit : new.limit ≡ old.limit
