use Rattle.tn_editor.proofs.Whole.{whole_or_none}
use Rattle.tn_editor.proofs.laws.a_character_is_kept_whole_or_not_at_all.Goals as goal

pub returns : goal.returns
returns c = whole_or_none
