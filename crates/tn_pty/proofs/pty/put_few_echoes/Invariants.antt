use Rattle.std.proofs.Common.{◌≡◌, map, take}
use Rattle.tn_discipline.specs.declared.echo.Symbol.TheVariants.{Byte}
use Rattle.tn_pty.specs.Terminal.{queue_with_each}
use Rattle.tn_pty.proofs.pty.put_few_echoes.Given as goal

-- the queue is followed by those of the bytes so far that fit
abbrev pub invariant-loop-byte : goal.invariant-loop-byte
invariant-loop-byte l =
    l.queue ≡ queue_with_each l.initial.queue (map (λ b. Byte b) (take l.byte-index l.bytes))
