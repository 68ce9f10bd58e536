use Rattle.std.proofs.Common.{sym, ap, ◌∙◌, subst}
use Rattle.tn_editor.specs.{Edited.edited_next, Expanding.times, Following.Holds, declared.edit_keys.EditRole.EditRole}
use Rattle.tn_editor.proofs.editor.Editor.play.Goals as goal

pub returns-in-Plain-clause-holds : goal.returns-in-Plain-clause-holds
returns-in-Plain-clause-holds c =
    λ t e s. subst (λ (r : EditRole). Holds t (edited_next t e r) c.play_plain.new.self) (sym c.in-Plain.is) (c.play_plain.ensures.holds t e s)

pub returns-in-Plain-clause-count : goal.returns-in-Plain-clause-count
returns-in-Plain-clause-count c = λ t e s. c.play_plain.ensures.count t e s ∙ ap (times t e) (sym c.in-Plain.is)

pub returns-in-EraseWord-clause-holds : goal.returns-in-EraseWord-clause-holds
returns-in-EraseWord-clause-holds c =
    λ t e s. subst (λ (r : EditRole). Holds t (edited_next t e r) c.erase_word.new.self) (sym c.in-EraseWord.is) (c.erase_word.ensures.holds t e s)
