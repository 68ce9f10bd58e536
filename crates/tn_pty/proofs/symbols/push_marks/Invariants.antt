use Rattle.std.proofs.Common.{◌≡◌, ◌≤◌, ◌-◌, ◌++◌, length, take, replicate}
use Rattle.circular_buffer.specs.Buffer.{buffer}
use Rattle.tn_pty.specs.Runs.{feeds}
use Rattle.tn_pty.proofs.symbols.push_marks.Given as goal

-- the marks of the bytes so far follow the others
abbrev pub invariant-loop-at : goal.invariant-loop-at
invariant-loop-at l =
    record {
      within : l.at ≤ length l.bytes;
      marks : l.marks ≡ buffer (l.initial.marks.items ++ replicate (feeds (take l.at l.bytes)) l.newlines) l.initial.marks.capacity;
    }

abbrev pub decreases-loop-at : goal.decreases-loop-at
decreases-loop-at l = length l.bytes - l.at
