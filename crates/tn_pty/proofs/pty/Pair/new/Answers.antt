use Rattle.std.proofs.Common.{refl}
use Rattle.tn_pty.proofs.pty.Pair.new.Goals as goal

pub returns : goal.returns
returns c = rw (c.in_ok-new.ensures, c.in_ok-new-2.ensures, c.in_ok-with_capacity.ensures, c.in_ok-new-3.ensures) refl
