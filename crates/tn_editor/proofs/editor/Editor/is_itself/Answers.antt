use Rattle.std.proofs.Common.{sym, ◌∙◌}
use Rattle.tn_editor.proofs.editor.Editor.is_itself.Goals as goal

pub returns : goal.returns
returns c =
    λ t e s.
    let role = c.role.ensures t e s in
    (λ is. sym role ∙ c.joins.ensures.0 is, λ itself. c.joins.ensures.1 (role ∙ itself))
