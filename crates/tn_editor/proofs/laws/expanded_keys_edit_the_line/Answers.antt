use Rattle.tn_editor.proofs.lemmas.Typing.{same_entries, same_half}
use Rattle.tn_editor.proofs.laws.expanded_keys_edit_the_line.Goals as goal

pub returns-clause-entries : goal.returns-clause-entries
returns-clause-entries c = λ t keys allowed. same_entries t allowed keys

pub returns-clause-half : goal.returns-clause-half
returns-clause-half c = λ t keys allowed. same_half t allowed keys
