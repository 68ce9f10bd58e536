use Rattle.std.proofs.Common.{refl}
use Rattle.tn_net.proofs.printing.printer.Lines.new.Goals as goal

pub returns-clause-prefix : goal.returns-clause-prefix
returns-clause-prefix c = refl
