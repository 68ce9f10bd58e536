use Rattle.tn_c.proofs.Calling.{line_called}
use Rattle.tn_c.proofs.line.tn_line_key.Goals as goal

pub returns-in-Line : goal.returns-in-Line
returns-in-Line c =
    line_called c.key-code.result c.in-Line.line c.key-code.new.self c.in-Some.ensures.value c.deref_mut.ensures.value c.in-Line.is
    c.answer.ensures.held c.answer.ensures.number c.key-code.ensures
