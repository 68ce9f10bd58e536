use Rattle.std.proofs.Common.{◌≡◌, ℕ, ap, ◌∙◌, subst, replicate}
use Rattle.tn_discipline.specs.declared.termios.Settings.{Settings}
use Rattle.tn_editor.specs.{EditKeys.edit_role_of_key, Edited.edited_next, Expanding.{times, becomes}, Following.Holds, declared.edit_keys.EditRole.EditRole}
use Rattle.tn_editor.proofs.editor.Editor.key.Goals as goal

pub returns-clause-goes_on : goal.returns-clause-goes_on
returns-clause-goes_on c =
    λ t e s. subst (λ (r : EditRole). Holds t (edited_next t e r) c.play.new.self) (c.role-role.ensures t e s) (c.play.ensures.holds t e s)

pub returns-clause-becomes : goal.returns-clause-becomes
returns-clause-becomes c =
    λ t e s.
    let r = edit_role_of_key t c.args.key in
    let chars = t.canon.settings.chars in
    let role = c.role-role.ensures t e s in
    let count : c.play.result ≡ times t e r = c.play.ensures.count t e s ∙ ap (times t e) role in
    let key : c.pressed.result ≡ becomes chars r c.args.key =
    c.pressed.ensures
    ∙ ap (λ (settings : Settings). becomes settings.chars c.role-role.result c.args.key) (c.settings-settings.ensures ∙ s.settings)
    ∙ ap (λ (r : EditRole). becomes chars r c.args.key) role in
    ap (λ (n : ℕ). replicate n c.pressed.result) count ∙ ap (replicate (times t e r)) key
