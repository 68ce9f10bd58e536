use Rattle.std.proofs.Common.{◌≤◌, ◌-◌, length, take, drop}
use Rattle.tn_nvt.specs.{Machine.progress, Runs.HandsFront}
use Rattle.tn_nvt.proofs.places.Place.hand_all.Given as goal

abbrev pub invariant-loop-at : goal.invariant-loop-at
invariant-loop-at g l = record {
  within : l.at ≤ length l.piece;
  handed : HandsFront g.S.Sink.takes (progress l.initial.place l.initial.body) (take l.at l.piece) (drop l.at l.piece) l.initial.sink l.sink
      (progress l.place l.body);
}

abbrev pub decreases-loop-at : goal.decreases-loop-at
decreases-loop-at g l = length l.piece - l.at
