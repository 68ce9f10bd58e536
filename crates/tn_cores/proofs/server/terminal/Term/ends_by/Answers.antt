use Rattle.std.proofs.Common.{ap}
use Rattle.tn_cores.specs.{server.Counting.after_end, declared.server.progress.ServerProgress.ServerProgress}
use Rattle.tn_cores.proofs.of_terminal.Doing.{does_turn}
use Rattle.tn_cores.proofs.server.terminal.Term.ends_by.Goals as goal

pub returns-clause-does : goal.returns-clause-does
returns-clause-does c = λ x.
    does_turn (λ j. j) (after_end c.args.ended) c.args.self.now _ x c.requires
    (ap (λ (p : ServerProgress). record c.args.self.now { progress = p }) c.ends-self.ensures)
