use Rattle.std.proofs.Common.{◌≡◌, ◌++◌, take}
use Rattle.tn_pty.specs.Typing.{symbols_in}
use Rattle.tn_pty.proofs.pty.put_present.Given as goal

-- the symbols so far follow the queue
abbrev pub invariant-loop-symbol : goal.invariant-loop-symbol
invariant-loop-symbol l =
    l.queue ≡ l.initial.queue ++ symbols_in (take l.symbol-index l.symbols)
