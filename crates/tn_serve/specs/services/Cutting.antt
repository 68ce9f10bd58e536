-- The lines that may have been truncated at the terminal's limit, and their effect.
use Rattle.std.specs.Prelude.{ℕ, ◌+◌, ◌-◌, ◌==◌, ◌&&◌, nat_le, Bool, Option, Some, None, List, length}
use Rattle.std.specs.Prelude.{slice_get, if◌then◌else◌}
use Rattle.tn_serve.specs.declared.services.cutting.LineFormat.{LineFormat}

-- the number of bytes that a line which ends by this one lacks of those with a line feed: an end of file
-- closes it with none
abbrev pub missing : Option ℕ → ℕ
missing None = 1
missing (Some byte) = if byte == 10 then 0 else 1

-- the line is as long as one of this limit may be
abbrev pub is_full : ℕ → List ℕ → Bool
is_full limit line = nat_le limit (length line + missing (slice_get line (length line - 1)))

-- the line ends the session
abbrev pub is_ending : LineFormat → List ℕ → Bool
is_ending lines line = lines.ends_cut && is_full lines.limit line
