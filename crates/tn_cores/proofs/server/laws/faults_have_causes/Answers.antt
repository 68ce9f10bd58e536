use Rattle.tn_cores.proofs.of_terminal.Ending.{fault_cause}
use Rattle.tn_cores.proofs.server.laws.faults_have_causes.Goals as goal

pub returns : goal.returns
returns c = λ opens canon approach jobs marked new fault. fault_cause opens canon approach jobs marked new fault
