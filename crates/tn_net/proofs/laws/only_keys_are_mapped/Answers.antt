use Rattle.tn_net.proofs.Sorting.{all_mapped, same_commands}
use Rattle.tn_net.proofs.laws.only_keys_are_mapped.Goals as goal

pub returns-clause-inputs : goal.returns-clause-inputs
returns-clause-inputs c keyboard prompt bytes = all_mapped keyboard prompt bytes

pub returns-clause-commands : goal.returns-clause-commands
returns-clause-commands c keyboard prompt bytes = same_commands keyboard prompt bytes
