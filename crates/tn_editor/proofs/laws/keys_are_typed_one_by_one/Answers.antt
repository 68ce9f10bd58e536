use Rattle.tn_editor.proofs.lemmas.Typing.{edited_push, expanded_push}
use Rattle.tn_editor.proofs.laws.keys_are_typed_one_by_one.Goals as goal

pub returns-clause-edited : goal.returns-clause-edited
returns-clause-edited c = edited_push

pub returns-clause-expanded : goal.returns-clause-expanded
returns-clause-expanded c = expanded_push
