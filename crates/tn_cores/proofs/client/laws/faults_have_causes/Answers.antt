use Rattle.tn_cores.proofs.lemmas.client.Ending.{fault_cause}
use Rattle.tn_cores.proofs.client.laws.faults_have_causes.Goals as goal

pub returns : goal.returns
returns c = λ width height limit marked new fault. fault_cause width height limit marked new fault
