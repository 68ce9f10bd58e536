use Rattle.std.proofs.Common.{rules, refl}
use Rattle.tn_c.proofs.parts.line.HeldLine.start.Goals as goal

pub returns : goal.returns
returns c = record { line = c.in_ok-new.ensures; settings = search rules; entry = refl; echo = refl }
