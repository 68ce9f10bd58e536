use Rattle.std.proofs.{Common.arith, lemmas.Grind.common_steps}
use Rattle.tn_client.proofs.end.ClientEnd.pass.Goals as goal

pub returns-in_err-put_raw-clause-err_out : goal.returns-in_err-put_raw-clause-err_out
returns-in_err-put_raw-clause-err_out c = grind (arith, common_steps)

pub returns-in_err-echo_passed-clause-err_out : goal.returns-in_err-echo_passed-clause-err_out
returns-in_err-echo_passed-clause-err_out c = grind (arith, common_steps)
