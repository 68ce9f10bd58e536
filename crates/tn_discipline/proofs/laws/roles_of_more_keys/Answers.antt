use Rattle.std.proofs.Common.{sym}
use Rattle.tn_discipline.proofs.lemmas.KeyRoles as roles
use Rattle.tn_discipline.proofs.laws.roles_of_more_keys.Goals as goal

pub returns : goal.returns
returns c = record {
  one = λ settings key. sym (roles.roles_of-one settings key);
  more = roles.roles_of-append;
  last = roles.roles_of-push;
  literal = roles.literal_roles;
}
