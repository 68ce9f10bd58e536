use Rattle.std.proofs.Common.{sym, ap, ◌∙◌}
use Rattle.tn_editor.specs.EditedLines.{as_held}
use Rattle.tn_editor.proofs.editor.Editor.set.Goals as goal

pub returns : goal.returns
returns c =
    λ t u e s settings keys limit. record {
      settings = c.set.ensures ∙ sym settings;
      keys = sym keys;
      line = s.line ∙ ap (λ n. as_held n e) (sym limit);
      refused = s.refused;
    }
