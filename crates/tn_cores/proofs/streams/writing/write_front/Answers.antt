use Rattle.std.proofs.{Common.{◌≡◌, Bool, Ok, Err, arith, take, drop, length, ◌-◌, length-drop, subst, sym}, Math.Seq.take-add}
use Rattle.tn_cores.proofs.lemmas.streams.Telling.{made_more, accounts_made, accounts_failed, accounts_passed, write_stays, write_fails}
use Rattle.tn_cores.proofs.lemmas.streams.Writing.{appends_more, appends_kept, take_all, stays_at, all_taken, ok_writes, open_more, not_below}
use Rattle.tn_cores.specs.streams.{Telling.CountsWrite, Writing.{Tells, max_writes}}
use Rattle.tn_cores.proofs.streams.writing.write_front.Goals as goal

pub loop-write-preserved : goal.loop-write-preserved
loop-write-preserved g c =
    let i = c.loop-write.invariant in
    let b = c.in-Ok.ensures.bound in (
      omega (arith, b, length-drop c.loop-write.at c.args.bytes.now),
      rw (take-add c.loop-write.at c.in-Ok.n c.args.bytes.now) (appends_more _ _ _ _ _ i.1
          (let all : take (length c.args.bytes.now - c.loop-write.at) (drop c.loop-write.at c.args.bytes.now)
          ≡ drop c.loop-write.at c.args.bytes.now = take_all _ _ (omega (arith, length-drop c.loop-write.at c.args.bytes.now))
          in rw all at c.in-Ok.ensures.bytes)),
      made_more (CountsWrite _ (Ok c.in-Ok.n)) c.loop-write._write _ _ _ (write_stays _ c.in-Ok.n c.in-Ok.n-test.1) i.2 c.in-Ok.ensures.tells,
      open_more _ _ _ i.3 c.in-Ok.ensures.goes,
      λ none. absurd (not_below c.args.bytes.now c.loop-write.at none c.if-at-bytes.false),
    )

pub returns-then-at-bytes-clause-tells : goal.returns-then-at-bytes-clause-tells
returns-then-at-bytes-clause-tells g c =
    let at_end = c.if-at-bytes.true in
    let told = g.W.Drain.told in
    subst (λ (w : Bool). Tells w (told c.args.writer.now) (told c.loop-write.writer))
    (sym (all_taken c.loop-write.at (length c.args.bytes.now) c.loop-write.invariant.0 at_end))
    (accounts_made max_writes c.loop-write._write _ _ c.loop-write.invariant.2)

pub returns-in-Ok-eq0-clause-writes : goal.returns-in-Ok-eq0-clause-writes
returns-in-Ok-eq0-clause-writes g c =
    stays_at _ (g.W.Drain.contents c.loop-write.writer) _ c.loop-write.at c.in-Ok-eq0.field-0 c.args.bytes.now _ c.in-Ok-eq0.field-0-test
    c.loop-write.invariant.1 (ok_writes _ _ c.write_some.result c.in-Ok-eq0.field-0 _ c.in-Ok-eq0.is c.write_some.ensures.bytes)

pub returns-in-Err-2-clause-writes : goal.returns-in-Err-2-clause-writes
returns-in-Err-2-clause-writes g c =
    appends_kept _ (g.W.Drain.contents c.loop-write.writer) _ (take c.loop-write.at c.args.bytes.now) c.loop-write.invariant.1 c.in-Err-2.ensures.bytes

pub returns-in-Err-2-clause-tells : goal.returns-in-Err-2-clause-tells
returns-in-Err-2-clause-tells g c =
    accounts_failed (CountsWrite c.args.bytes.now (Err c.in-Err.error)) max_writes c.loop-write._write _ _ _ _
    (write_fails c.args.bytes.now c.in-Err.error (c.is_interrupted.ensures.failed c.if-is_interrupted.false)) c.loop-write.invariant.2
    c.in-Err.ensures.tells

pub returns-clause-tells : goal.returns-clause-tells
returns-clause-tells g c =
    let n : c.loop-write._write ≡ 18446744073709551615 = omega (arith, c.loop-write.auto._write-end, c.loop-write-test.false) in
    accounts_passed max_writes _ _ _ (rw n at c.loop-write.invariant.2)
