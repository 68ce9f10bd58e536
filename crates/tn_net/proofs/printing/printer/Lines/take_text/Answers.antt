use Rattle.std.proofs.Common.{refl}
use Rattle.tn_net.proofs.printing.printer.Lines.take_text.Goals as goal

pub returns-clause-taken : goal.returns-clause-taken
returns-clause-taken c = rw (← c.self.view_is, c.replace.ensures.value) refl

pub returns-clause-left : goal.returns-clause-left
returns-clause-left c = rw (← c.self.view_is, c.replace.ensures.after, c.new.ensures.items) refl
