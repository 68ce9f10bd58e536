use Rattle.tn_cli.proofs.Played.{SettledBefore}
use Rattle.tn_cli.proofs.playing.settle.Given as goal

abbrev pub invariant-loop-settling : goal.invariant-loop-settling
invariant-loop-settling l = SettledBefore l._settling l.fn.world l.world
