use Rattle.std.proofs.Common.{ap, ◌∙◌}
use Rattle.tn_discipline.specs.declared.termios.Settings.{Settings}
use Rattle.tn_editor.proofs.editor.Editor.kill.Goals as goal

pub returns : goal.returns
returns c = λ t e s. c.get.ensures.value ∙ ap (λ (settings : Settings). settings.chars.kill) (c.settings.ensures ∙ s.settings)
