use Rattle.std.proofs.{Common.{◌≡◌, take, arith, length-take}, lemmas.Grind.common_steps}
use Rattle.tn_session.proofs.of_workers.Reading.{consumes_none}
use Rattle.tn_cores.proofs.lemmas.streams.Foretelling.{come_none, come_more, come_again, come_failed}
use Rattle.tn_session.proofs.workers.reader.read_piece.Goals as goal

pub returns-in-Ok-read_some-clause-foretold : goal.returns-in-Ok-read_some-clause-foretold
returns-in-Ok-read_some-clause-foretold g c = come_more c.in-Ok-read_some.n 0 0 _ _ _ (come_none _) c.in-Ok-read_some.ensures.foretells

pub returns-in-Err-clause-gives : goal.returns-in-Err-clause-gives
returns-in-Err-clause-gives g c = consumes_none _ _ c.in-Err.ensures.bytes

pub returns-in-Err-clause-foretold : goal.returns-in-Err-clause-foretold
returns-in-Err-clause-foretold g c = come_again c.in-Err.error 0 0 _ _ _ (c.is_interrupted.ensures.again c.if-is_interrupted.true)
    (come_none _) c.in-Err.ensures.foretells

pub returns-clause-gives : goal.returns-clause-gives
returns-clause-gives g c = (consumes_none _ _ c.in-Err-2.ensures.bytes, tt)

pub returns-clause-foretold : goal.returns-clause-foretold
returns-clause-foretold g c = come_failed c.in-Err.error 4294967295 0 0 _ _ _ (c.is_interrupted.ensures.failed c.if-is_interrupted.false)
    (come_none _) c.in-Err.ensures.foretells

pub returns-in-Ok-eq0-clause-foretold : goal.returns-in-Ok-eq0-clause-foretold
returns-in-Ok-eq0-clause-foretold g c = tt

pub returns-in-Ok-read_some-clause-gives : goal.returns-in-Ok-read_some-clause-gives
returns-in-Ok-read_some-clause-gives g c =
    let n = c.in-Ok-read_some.n in
    let buffer = c.read_some.new.buf in
    let bound = c.in-Ok-read_some.ensures.bound in
    let same : c.from.result ≡ take n buffer = grind (arith, common_steps) in
    rw same (
      c.in-Ok-read_some.ensures.bytes.0,
      (
        omega (arith, length-take n buffer, bound.0, c.in-Ok-read_some.n-test),
        omega (arith, length-take n buffer, bound.0, c.read_some.auto.buf, c.as_mut_slice.ensures.len, c.in-Ok.ensures.len),
      ),
    )
