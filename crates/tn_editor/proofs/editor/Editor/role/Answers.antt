use Rattle.std.proofs.Common.{ap, ◌∙◌}
use Rattle.tn_discipline.specs.declared.termios.Settings.{Settings}
use Rattle.tn_editor.specs.EditKeys.{edit_role}
use Rattle.tn_editor.proofs.Holding.{role_held}
use Rattle.tn_editor.proofs.editor.Editor.role.Goals as goal

pub returns : goal.returns
returns c =
    λ t e s.
    let editor = c.args.self.now in
    c.edit_role.ensures
    ∙ ap (λ (settings : Settings). edit_role settings editor.keys c.role.result) c.settings.ensures
    ∙ ap (edit_role editor.roles editor.keys) c.role.ensures
    ∙ role_held t e editor c.args.key s
