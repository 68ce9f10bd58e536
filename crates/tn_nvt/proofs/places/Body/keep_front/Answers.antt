use Rattle.std.proofs.{Common.{◌+◌, [], take, drop, get_or, arith}, lemmas.List.take_more}
use Rattle.tn_nvt.specs.{Machine.{Inside, gathered_of}, Runs.LacksMemory}
use Rattle.tn_nvt.proofs.{Feeding.at_element, Steps.{StepAdvances-append, inside_plain}, Taking.on_err}
use Rattle.tn_nvt.proofs.places.Body.keep_front.Goals as goal

pub returns-in_err-keep-clause-err : goal.returns-in_err-keep-clause-err
returns-in_err-keep-clause-err c =
    let i = c.loop-at.at in
    let xs = c.args.bytes.now in
    let lacks : LacksMemory (gathered_of c.args.self.now) xs = record {
      front = take i xs;
      byte = get_or xs i 0;
      back = drop (i + 1) xs;
      whole = at_element xs i c.loop-at-test.true;
      middle = Inside (gathered_of c.loop-at.self);
      advances = c.loop-at.invariant.advances;
      wanted = (c.if-byte.false, c.in_err-keep.ensures.err);
    } in
    on_err _ _ lacks

pub loop-at-preserved : goal.loop-at-preserved
loop-at-preserved c = record {
  within = omega arith;
  advances =
      rw (take_more c.args.bytes.now c.loop-at.at 0 c.loop-at-test.true)
      (StepAdvances-append (Inside (gathered_of c.args.self.now)) (Inside (gathered_of c.loop-at.self))
      (Inside (gathered_of c.keep.new.self)) _ _ [] [] c.loop-at.invariant.advances
      (inside_plain (gathered_of c.loop-at.self) (gathered_of c.keep.new.self) _ c.if-byte.false c.in_ok-keep.ensures.ok));
}
