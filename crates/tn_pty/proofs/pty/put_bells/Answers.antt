use Rattle.tn_discipline.specs.declared.echo.Symbol.TheVariants.{Byte}
use Rattle.tn_pty.proofs.Queues.{each_more}
use Rattle.tn_pty.proofs.pty.put_bells.Goals as goal

pub loop-byte-preserved : goal.loop-byte-preserved
loop-byte-preserved c =
    each_more (λ b. Byte 7) c.args.queue.now c.args.bytes.now c.loop-byte._byte-index c.loop-byte.queue c.push.new.self c.loop-byte-test.true
    c.loop-byte.invariant c.push.ensures
