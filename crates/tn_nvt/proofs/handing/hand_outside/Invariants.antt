use Rattle.std.proofs.Common.{◌≤◌, ◌-◌, length, take, drop}
use Rattle.tn_nvt.specs.{Machine.Outside, Runs.HandsFront}
use Rattle.tn_nvt.proofs.handing.hand_outside.Given as goal

abbrev pub invariant-loop-at : goal.invariant-loop-at
invariant-loop-at g l = record {
  within : l.at ≤ length l.rest;
  handed : HandsFront g.S.Sink.takes Outside (take l.at l.rest) (drop l.at l.rest) l.initial.sink l.sink Outside;
}

abbrev pub decreases-loop-at : goal.decreases-loop-at
decreases-loop-at g l = length l.rest - l.at
