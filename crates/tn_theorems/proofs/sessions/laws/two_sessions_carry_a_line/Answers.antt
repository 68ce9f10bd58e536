use Rattle.tn_theorems.proofs.of_sessions.Example.{sessions_carry}
use Rattle.tn_theorems.proofs.sessions.laws.two_sessions_carry_a_line.Goals as goal

pub returns : goal.returns
returns c = sessions_carry
