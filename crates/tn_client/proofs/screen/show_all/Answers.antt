use Rattle.std.proofs.{Common.arith, lemmas.Grind.common_steps}
use Rattle.tn_client.proofs.screen.show_all.Goals as goal

pub show-requires : goal.show-requires
show-requires c = grind (arith, common_steps)

pub loop-symbol-preserved : goal.loop-symbol-preserved
loop-symbol-preserved c = grind (arith, common_steps)

pub returns : goal.returns
returns c = grind (arith, common_steps)
