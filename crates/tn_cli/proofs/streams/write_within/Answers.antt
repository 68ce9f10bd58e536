use Rattle.std.proofs.Common.{Ok, arith, length-drop}
use Rattle.tn_cli.proofs.Writing.{wrote_more, rest_is}
use Rattle.tn_cores.proofs.lemmas.streams.Telling.{made_more, write_stays}
use Rattle.tn_cores.specs.streams.Telling.{CountsWrite}
use Rattle.tn_cli.proofs.streams.write_within.Goals as goal

pub loop-write-preserved : goal.loop-write-preserved
loop-write-preserved g c =
    let contents = g.W.Drain.contents in
    let rest = rest_is c.args.output.now c.loop-write.written in
    let bound = rw rest at c.in-Ok.ensures.bound in
    record {
      within = omega (arith, c.loop-write.invariant.within, bound, length-drop c.loop-write.written c.args.output.now);
      appended = wrote_more (contents c.args.writer.now) (contents c.loop-write.writer)
          (contents c.write_some.new.self) c.args.output.now c.loop-write.written c.in-Ok.count c.loop-write.invariant.appended
          (rw rest at c.in-Ok.ensures.bytes);
      made = made_more (CountsWrite _ (Ok c.in-Ok.count)) c.loop-write.write _ _ _
          (write_stays _ c.in-Ok.count c.in-Ok.count-test.1) c.loop-write.invariant.made c.in-Ok.ensures.tells;
    }
