-- The bytes that a screen holds.
use Rattle.std.specs.Prelude.{ℕ, Bool, true, false, Option, None, List}

-- nothing is known of a session's screen: bytes that were shown as they were typed are not written again
abbrev pub held_by : Bool → Option (List ℕ) → Option (List ℕ)
held_by true held = None
held_by false held = held
