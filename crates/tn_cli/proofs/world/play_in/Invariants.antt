use Rattle.std.proofs.Common.{map, take}
use Rattle.tn_cli.specs.Playing.{AppendsPrint, LeadsTo}
use Rattle.tn_cli.proofs.world.play_in.Given as goal

abbrev pub invariant-loop-index : goal.invariant-loop-index
invariant-loop-index l = AppendsPrint (λ text. LeadsTo (map (λ line. line.now) (take l.index l.lines)) text l.world) l.fn.printed.items l.printed.items
