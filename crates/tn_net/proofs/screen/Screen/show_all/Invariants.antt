use Rattle.std.proofs.Common.{◌≡◌}
use Rattle.tn_net.proofs.screen.Screen.show_all.Given as goal

abbrev pub invariant-loop-write : goal.invariant-loop-write
invariant-loop-write g l = l.self.is_session ≡ l.fn.self.is_session
