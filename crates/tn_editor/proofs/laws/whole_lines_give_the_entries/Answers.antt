use Rattle.tn_editor.proofs.lemmas.Entering.{same_entries_in_lines}
use Rattle.tn_editor.proofs.laws.whole_lines_give_the_entries.Goals as goal

pub returns : goal.returns
returns c = same_entries_in_lines
