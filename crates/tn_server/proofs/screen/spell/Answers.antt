use Rattle.std.proofs.{Common.arith, lemmas.Grind.common_steps}
use Rattle.tn_server.proofs.screen.spell.Goals as goal

pub returns-in-Newline-clause-items : goal.returns-in-Newline-clause-items
returns-in-Newline-clause-items c = grind (arith, common_steps)

pub returns-in-Byte-eq13-clause-items : goal.returns-in-Byte-eq13-clause-items
returns-in-Byte-eq13-clause-items c = grind (arith, common_steps)

pub returns-in-Byte-eq255-clause-items : goal.returns-in-Byte-eq255-clause-items
returns-in-Byte-eq255-clause-items c = grind (arith, common_steps)
