use Rattle.std.proofs.Common.{ap, ◌∙◌, None}
use Rattle.tn_jobs.specs.Jobs.{Jobs, with_state}
use Rattle.tn_cores.specs.{server.Counting.after_end, declared.{server.progress.ServerProgress.ServerProgress, faults.Ended.TheVariants.Done}}
use Rattle.tn_cores.proofs.of_terminal.Doing.{does_turn}
use Rattle.tn_cores.proofs.server.terminal.Term.end.Goals as goal

pub returns-then-in_foreground-clause-does : goal.returns-then-in_foreground-clause-does
returns-then-in_foreground-clause-does c = λ x.
    rw c.if-in_foreground.true (does_turn (λ j. with_state j c.args.id.0 None) (after_end Done) c.args.self.now _ x c.requires.on
    (ap (λ (p : ServerProgress). record c.args.self.now { table = c.take_out.new.table; progress = p }) c.ends-self.ensures
    ∙ ap (λ (j : Jobs). record c.args.self.now { table = j; progress = after_end Done c.args.self.now.progress }) c.take_out.ensures))

pub returns-else-in_foreground-clause-does : goal.returns-else-in_foreground-clause-does
returns-else-in_foreground-clause-does c = λ x.
    rw c.if-in_foreground.false (does_turn (λ j. with_state j c.args.id.0 None) (λ p. p) c.args.self.now _ x c.requires.on
    (ap (λ (j : Jobs). record c.args.self.now { table = j }) c.take_out.ensures))
