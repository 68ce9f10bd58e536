use Rattle.std.proofs.Common.{sym, ap, ◌∙◌, ◌++◌}
use Rattle.tn_editor.specs.EditedLines.{HeldLine}
use Rattle.tn_editor.proofs.editor.Editor.half_line.Goals as goal

pub returns : goal.returns
returns c = λ t e s. ap (λ bytes. e.ahead ++ bytes) (sym (c.held.ensures.value ∙ ap (λ (l : HeldLine). l.held) s.line))
