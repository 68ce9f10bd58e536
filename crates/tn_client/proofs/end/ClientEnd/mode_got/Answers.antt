use Rattle.std.proofs.{Common.arith, lemmas.Grind.common_steps}
use Rattle.tn_client.proofs.end.ClientEnd.mode_got.Goals as goal

pub returns-in_err-put_held-clause-grows : goal.returns-in_err-put_held-clause-grows
returns-in_err-put_held-clause-grows c = grind (arith, common_steps)

pub returns-in_err-put_mode-clause-grows : goal.returns-in_err-put_mode-clause-grows
returns-in_err-put_mode-clause-grows c = grind (arith, common_steps)

pub returns-clause-out : goal.returns-clause-out
returns-clause-out c = grind (arith, common_steps)
