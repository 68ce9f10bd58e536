use Rattle.std.proofs.Common.{◌≡◌}
use Rattle.tn_pty.specs.Terminal.{first_signal}
use Rattle.tn_pty.proofs.pty.Pair.signal_waiting.Given as goal

-- no signal was among the entries so far
abbrev pub invariant-loop-entry : goal.invariant-loop-entry
invariant-loop-entry l =
    first_signal l.self.entries ≡ first_signal l.entry-iterator
