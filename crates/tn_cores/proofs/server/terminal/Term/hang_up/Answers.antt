use Rattle.std.proofs.Common.{ap}
use Rattle.tn_cores.specs.{server.Counting.after_hang_up, declared.server.progress.ServerProgress.ServerProgress}
use Rattle.tn_cores.proofs.of_terminal.Doing.{does_end}
use Rattle.tn_cores.proofs.server.terminal.Term.hang_up.Goals as goal

pub returns-clause-does : goal.returns-clause-does
returns-clause-does c = λ x.
    does_end after_hang_up c.args.self.now _ _ x c.requires (ap (λ (p : ServerProgress). record c.args.self.now { progress = p }) c.hung_up-self.ensures)
    c.end_if-put.ensures
