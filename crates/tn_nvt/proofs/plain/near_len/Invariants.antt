use Rattle.std.proofs.Common.{◌≤◌, ◌<◌, ◌-◌, length, take, All}
use Rattle.tn_nvt.specs.Sinks.{IsPlain}
use Rattle.tn_nvt.proofs.plain.near_len.Given as goal

abbrev pub invariant-loop-at : goal.invariant-loop-at
invariant-loop-at l = record {
  some : 0 < l.at;
  within : l.at ≤ length l.bytes;
  plain : All IsPlain (take l.at l.bytes);
}

abbrev pub decreases-loop-at : goal.decreases-loop-at
decreases-loop-at l = length l.bytes - l.at
