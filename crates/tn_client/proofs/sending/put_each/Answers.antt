use Rattle.std.proofs.{Common.arith, lemmas.{Grind.common_steps, Result.err_from_is_err_and}}
use Rattle.tn_client.proofs.Growing.{no_longer, lacks_whole}
use Rattle.tn_client.proofs.sending.put_each.Goals as goal

pub returns-in_err-put_byte-clause-err : goal.returns-in_err-put_byte-clause-err
returns-in_err-put_byte-clause-err c = grind (arith, common_steps)

pub loop-byte-preserved : goal.loop-byte-preserved
loop-byte-preserved c = grind (arith, common_steps)

pub returns-clause-ok : goal.returns-clause-ok
returns-clause-ok c = grind (arith, common_steps)

pub returns-in_err-put_byte-clause-full : goal.returns-in_err-put_byte-clause-full
returns-in_err-put_byte-clause-full c =
    let p = err_from_is_err_and c.from_residual.result c.from_residual.ensures.1 in
    rw p.1 (lacks_whole c.args.out.now c.loop-byte.out _ _ _ c.loop-byte.invariant.items c.loop-byte.invariant.capacity c.in_err-put_byte.ensures.full
    (no_longer c.args.bytes.now c.loop-byte.byte-index c.loop-byte-test.true))
