use Rattle.tn_editor.proofs.lemmas.AsBefore.{themselves}
use Rattle.tn_editor.proofs.laws.other_keys_are_as_before.Goals as goal

pub returns : goal.returns
returns c = themselves
