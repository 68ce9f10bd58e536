use Rattle.std.proofs.Common.{ap}
use Rattle.tn_discipline.specs.Entries.{entries_of}
use Rattle.tn_net.proofs.Meaning.{same_roles}
use Rattle.tn_net.proofs.laws.users_keys.Goals as goal

pub returns : goal.returns
returns c own limit keys allowed users = ap (entries_of limit) (same_roles own allowed keys users)
