use Rattle.tn_editor.proofs.lemmas.Typing.{same_entries_by_role, same_half_by_role}
use Rattle.tn_editor.proofs.laws.expanded_roles_edit_the_line.Goals as goal

pub returns-clause-entries : goal.returns-clause-entries
returns-clause-entries c = same_entries_by_role

pub returns-clause-half : goal.returns-clause-half
returns-clause-half c = same_half_by_role
