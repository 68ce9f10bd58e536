use Rattle.std.proofs.Common.{sym, ap, ◌∙◌, subst}
use Rattle.tn_discipline.specs.declared.keys.Role.{Role}
use Rattle.tn_editor.specs.{Edited.edited_next, Expanding.times, Following.Holds, declared.edit_keys.EditRole.TheVariants.Plain}
use Rattle.tn_editor.proofs.Holding.{byte_holds, byte_times}
use Rattle.tn_editor.proofs.editor.Editor.play_plain.Goals as goal

pub returns-in-Ordinary-clause-holds : goal.returns-in-Ordinary-clause-holds
returns-in-Ordinary-clause-holds c =
    λ t e s.
    let typed = c.type_byte.ensures in
    subst (λ (r : Role). Holds t (edited_next t e (Plain r)) c.type_byte.new.self) (sym c.in-Ordinary.is)
    (byte_holds t e c.in-Ordinary.byte c.args.self.now s c.type_byte.new.self typed.roles typed.keys typed.line typed.refused)

pub returns-in-Ordinary-clause-count : goal.returns-in-Ordinary-clause-count
returns-in-Ordinary-clause-count c =
    λ t e s.
    byte_times t e c.in-Ordinary.byte c.args.self.now s c.type_byte.result c.type_byte.ensures.count
    ∙ ap (λ (r : Role). times t e (Plain r)) (sym c.in-Ordinary.is)

pub returns-in-Erase-clause-holds : goal.returns-in-Erase-clause-holds
returns-in-Erase-clause-holds c =
    λ t e s. subst (λ (r : Role). Holds t (edited_next t e (Plain r)) c.erase.new.self) (sym c.in-Erase.is) (c.erase.ensures.holds t e s)

pub returns-in-Erase-clause-count : goal.returns-in-Erase-clause-count
returns-in-Erase-clause-count c = λ t e s. c.erase.ensures.count t e s ∙ ap (λ (r : Role). times t e (Plain r)) (sym c.in-Erase.is)
