use Rattle.std.proofs.Common.{◌≡◌, ◌≤◌, ◌-◌, length, take}
use Rattle.tn_pty.specs.{Typing.after_all, Faults.AcceptsAll}
use Rattle.tn_pty.proofs.pty.Pair.take_each.Given as goal

-- the bytes so far were taken
abbrev pub invariant-loop-taken : goal.invariant-loop-taken
invariant-loop-taken l =
    record {
      within : l.taken ≤ length l.bytes;
      pair : l.self ≡ after_all l.input l.initial.self (take l.taken l.bytes);
      accepted : AcceptsAll l.input l.initial.self (take l.taken l.bytes);
    }

abbrev pub decreases-loop-taken : goal.decreases-loop-taken
decreases-loop-taken l = length l.bytes - l.taken
