use Rattle.std.proofs.Common.{◌∙◌}
use Rattle.tn_editor.proofs.Holding.{word_times, word_left, no_word}
use Rattle.tn_editor.proofs.editor.Editor.erase_word.Goals as goal

pub returns-clause-holds : goal.returns-clause-holds
returns-clause-holds c =
    λ t e s. record {
      settings = s.settings;
      keys = s.keys;
      line = c.erase_word.ensures ∙ word_left t e c.args.self.now s;
      refused = c.none-self.ensures ∙ no_word t.keys.words e.ahead e.characters;
    }

pub returns-clause-count : goal.returns-clause-count
returns-clause-count c =
    λ t e s.
    word_times t e c.args.self.now s c.erase_word.new.self c.bytes-before.result c.bytes.result c.saturating_sub.result c.bytes-before.ensures.value
    c.erase_word.ensures c.bytes.ensures.value c.saturating_sub.ensures
