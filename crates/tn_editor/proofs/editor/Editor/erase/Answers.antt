use Rattle.std.proofs.Common.{◌∙◌, ap}
use Rattle.tn_editor.specs.EditedLines.{times_erased}
use Rattle.tn_editor.proofs.Holding.{erase_times, erase_line, no_last}
use Rattle.tn_editor.proofs.editor.Editor.erase.Goals as goal

pub returns-clause-holds : goal.returns-clause-holds
returns-clause-holds c =
    λ t e s. record {
      settings = s.settings;
      keys = s.keys;
      line = c.erase.ensures ∙ erase_line t e c.args.self.now s;
      refused = c.none-self.ensures ∙ no_last e.ahead e.characters;
    }

pub returns-clause-count : goal.returns-clause-count
returns-clause-count c =
    λ t e s. erase_times t e c.args.self.now s c.erases-count.result c.newest.ensures.some (c.erases-count.ensures ∙ ap times_erased c.newest.ensures.value)
