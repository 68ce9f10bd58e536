use Rattle.std.proofs.Common.{◌≤◌, ◌-◌, [], length, take}
use Rattle.tn_nvt.specs.Machine.{gathered_of, Inside, StepAdvances}
use Rattle.tn_nvt.proofs.places.Body.keep_front.Given as goal

abbrev pub invariant-loop-at : goal.invariant-loop-at
invariant-loop-at l = record {
  within : l.at ≤ length l.bytes;
  advances : StepAdvances (Inside (gathered_of l.initial.self)) (take l.at l.bytes) [] (Inside (gathered_of l.self));
}

abbrev pub decreases-loop-at : goal.decreases-loop-at
decreases-loop-at l = length l.bytes - l.at
