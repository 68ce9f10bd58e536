use Rattle.tn_editor.proofs.EditedLines.{word_cut}
use Rattle.tn_editor.proofs.edited_line.EditedLine.take_word.Goals as goal

pub returns : goal.returns
returns c =
    word_cut c.args.words c.args.self.now c.take_while.new.self c.take_while-2.new.self c.requires c.take_while.ensures c.take_while-2.ensures
