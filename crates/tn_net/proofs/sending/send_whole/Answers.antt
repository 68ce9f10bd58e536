use Rattle.std.proofs.{Common.{◌≡◌, arith, take, drop, length, ◌-◌, length-drop}, Math.Seq.take-add}
use Rattle.tn_net.proofs.Writing.{stops_at, stops_now, writes_all}
use Rattle.tn_cores.proofs.lemmas.streams.Writing.{appends_more, open_more, appends_kept, take_all, ok_writes}
use Rattle.tn_net.proofs.sending.send_whole.Goals as goal

pub loop-write-preserved : goal.loop-write-preserved
loop-write-preserved g c =
    let i = c.loop-write.invariant in
    let b = c.in-Ok.ensures.bound in (
      omega (arith, b, length-drop c.loop-write.at c.args.bytes.now),
      rw (take-add c.loop-write.at c.in-Ok.n c.args.bytes.now) (appends_more _ _ _ _ _ i.1
          (let all : take (length c.args.bytes.now - c.loop-write.at) (drop c.loop-write.at c.args.bytes.now)
          ≡ drop c.loop-write.at c.args.bytes.now = take_all _ _ (omega (arith, length-drop c.loop-write.at c.args.bytes.now))
          in rw all at c.in-Ok.ensures.bytes)),
      open_more _ _ _ i.2 c.in-Ok.ensures.goes,
    )

pub returns-then-at-bytes-clause-whole : goal.returns-then-at-bytes-clause-whole
returns-then-at-bytes-clause-whole g c =
    let at_end = c.if-at-bytes.true in
    writes_all _ _ c.loop-write.at c.args.bytes.now (omega (arith, at_end)) c.loop-write.invariant.1

pub returns-in-Ok-eq0-clause-begun : goal.returns-in-Ok-eq0-clause-begun
returns-in-Ok-eq0-clause-begun g c =
    stops_now _ (g.W.Drain.contents c.loop-write.writer) _ c.loop-write.at c.in-Ok-eq0.field-0 c.args.bytes.now _ c.in-Ok-eq0.field-0-test
    c.loop-write.invariant.1 (ok_writes _ _ c.write_some.result c.in-Ok-eq0.field-0 _ c.in-Ok-eq0.is c.write_some.ensures.bytes)

pub returns-in-Err-2-clause-begun : goal.returns-in-Err-2-clause-begun
returns-in-Err-2-clause-begun g c =
    stops_at _ _ c.loop-write.at c.args.bytes.now (appends_kept _ (g.W.Drain.contents c.loop-write.writer) _
    (take c.loop-write.at c.args.bytes.now) c.loop-write.invariant.1 c.in-Err-2.ensures.bytes)

pub returns-clause-begun : goal.returns-clause-begun
returns-clause-begun g c = stops_at _ _ c.loop-write.at c.args.bytes.now c.loop-write.invariant.1
