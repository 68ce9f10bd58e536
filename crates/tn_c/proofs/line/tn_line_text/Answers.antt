use Rattle.std.proofs.Common.{refl}
use Rattle.tn_c.specs.declared.parts.codes.Code.TheVariants.{Done}
use Rattle.tn_c.proofs.Calling.{line_called}
use Rattle.tn_c.proofs.line.tn_line_text.Goals as goal

pub returns-in-Line : goal.returns-in-Line
returns-in-Line c =
    line_called Done c.in-Line.line c.in-Line.line c.in-Some.ensures.value c.deref_mut.ensures.value c.in-Line.is
    c.answer.ensures.held c.answer.ensures.number (record { done = refl; same = refl; found = c.text.ensures })
