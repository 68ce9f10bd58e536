-- The slots of the entries that wait.
use Rattle.std.specs.Prelude.{◌+◌, ◌<◌, ◌≤◌, length, if◌then◌else◌}
use Rattle.circular_buffer.specs.Buffer.{Buffer}
use Rattle.tn_discipline.specs.{Keys.gives_entry, declared.{keys.Role.Role, reads.Entry.Entry}}
use Rattle.tn_pty.specs.Terminal.{max_waiting}

-- there are slots, at most as many as entries may wait
abbrev pub HasSlots : Buffer Entry → Type 0
HasSlots entries = (0 < entries.capacity) × (entries.capacity ≤ max_waiting)

-- there is a slot for the entry that a key of this role makes
abbrev pub HasSlotFor : Buffer Entry → Role → Type 0
HasSlotFor entries r = length entries.items + (if gives_entry r then 1 else 0) ≤ entries.capacity
