use Rattle.tn_codes.proofs.Grammar.{says_kind, says_length}
use Rattle.tn_codes.proofs.laws.faults_are_apart.Goals as goal

pub returns-clause-kind : goal.returns-clause-kind
returns-clause-kind c = says_kind

pub returns-clause-length : goal.returns-clause-length
returns-clause-length c = says_length
