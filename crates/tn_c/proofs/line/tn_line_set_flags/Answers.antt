use Rattle.std.proofs.Common.{refl, subst}
use Rattle.tn_discipline.specs.declared.termios.Flags.{Flags}
use Rattle.tn_c.specs.{declared.parts.codes.Code.TheVariants.Done, parts.LineCalls.SetFlagsCall}
use Rattle.tn_c.proofs.Calling.{line_called}
use Rattle.tn_c.proofs.line.tn_line_set_flags.Goals as goal

pub returns-in-Line : goal.returns-in-Line
returns-in-Line c =
    line_called Done c.in-Line.line c.set_flags.new.self c.in-Some.ensures.value c.deref_mut.ensures.value c.in-Line.is
    c.answer.ensures.held c.answer.ensures.number
    (record { done = refl; did = subst (λ (flags : Flags). SetFlagsCall flags c.in-Line.line c.set_flags.new.self) c.flags.ensures c.set_flags.ensures })
