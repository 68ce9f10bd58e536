-- The keys so far and what is still kept are what was kept.
use Rattle.std.proofs.Common.{◌≡◌, ◌++◌, length, map, take}
use Rattle.tn_net.specs.declared.escaping.SessionInput.TheVariants as input
use Rattle.tn_net.proofs.kept.give.Given as goal

abbrev pub invariant-loop-place : goal.invariant-loop-place
invariant-loop-place l =
    (map input.Key (take l.place l.buf) ++ l.kept.items ≡ l.fn.kept.items) × (length l.buf ≡ length l.fn.buf)
