use Rattle.std.proofs.Common.{◌≡◌, Ok, Err, length, take, arith}
use Rattle.tn_cli.proofs.Inputs.{kept_none, kept_more, kept_again}
use Rattle.tn_cores.proofs.lemmas.streams.Telling.{made_none, made_more, failed_at, passed, read_stays, read_again, read_fails}
use Rattle.tn_cores.specs.streams.Telling.{CountsRead}
use Rattle.tn_cli.proofs.streams.read_whole.Goals as goal

pub loop-read-init : goal.loop-read-init
loop-read-init g c = record {
  kept = kept_none (g.R.Source.remaining c.args.reader.now) c.new-input.result.items c.new-input.ensures.items;
  short = omega arith;
  made = made_none (g.R.Source.told c.args.reader.now);
}

pub loop-read-preserved : goal.loop-read-preserved
loop-read-preserved g c =
    let remaining = g.R.Source.remaining in
    let piece = take c.in-Ok.count c.read_some.new.buf in
    let count : c.in-Ok.count ≡ length piece = c.in-Ok.ensures.bound.1 in
    record {
      kept = rw count (kept_more c.loop-read.total (remaining c.args.reader.now) (remaining c.loop-read.reader)
          (remaining c.read_some.new.self) c.loop-read.input.items c.keep.new.input.items piece c.loop-read.invariant.kept c.in-Ok.ensures.bytes.0
          c.keep.ensures);
      short = omega (arith, c.if-count-total.false, c.loop-read.invariant.short);
      made = made_more (CountsRead (Ok c.in-Ok.count)) c.loop-read._read _ _ _ (read_stays c.in-Ok.count) c.loop-read.invariant.made c.in-Ok.ensures.tells;
    }

pub loop-read-preserved-in-Err : goal.loop-read-preserved-in-Err
loop-read-preserved-in-Err g c =
    let remaining = g.R.Source.remaining in
    let i = c.loop-read.invariant in
    record {
      kept = kept_again c.loop-read.total (remaining c.args.reader.now) (remaining c.loop-read.reader)
          (remaining c.read_some.new.self) c.loop-read.input.items i.kept c.in-Err.ensures.bytes;
      short = i.short;
      made = made_more (CountsRead (Err c.in-Err.error)) c.loop-read._read _ _ _
          (read_again c.in-Err.error (c.is_interrupted.ensures.again c.if-is_interrupted.true)) i.made c.in-Err.ensures.tells;
    }

pub returns-in-Err-2-clause-read : goal.returns-in-Err-2-clause-read
returns-in-Err-2-clause-read g c told = failed_at (CountsRead (Err c.in-Err.error)) 2097152 c.loop-read._read _ _ _
    (read_fails c.in-Err.error (c.is_interrupted.ensures.failed c.if-is_interrupted.false)) c.loop-read.invariant.made c.in-Err.ensures.tells

pub returns-clause-read : goal.returns-clause-read
returns-clause-read g c told =
    let n : c.loop-read._read ≡ 2097152 = omega (arith, c.loop-read.auto._read-end, c.loop-read-test.false) in
    passed 2097152 _ _ (rw n at c.loop-read.invariant.made)
