use Rattle.std.proofs.Common.{ap, Some}
use Rattle.tn_jobs.specs.{Jobs.{Jobs, with_state}, declared.verdicts.JobState.TheVariants.Stopped}
use Rattle.tn_cores.specs.{server.Counting.after_stop, declared.server.progress.ServerProgress.ServerProgress}
use Rattle.tn_cores.proofs.of_terminal.Doing.{does_turn}
use Rattle.tn_cores.proofs.server.terminal.Term.stop.Goals as goal

pub returns-then-in_foreground-clause-does : goal.returns-then-in_foreground-clause-does
returns-then-in_foreground-clause-does c = λ x.
    rw c.if-in_foreground.true (does_turn (λ j. j) after_stop c.args.self.now _ x c.requires.on
    (ap (λ (p : ServerProgress). record c.args.self.now { progress = p }) c.stops-self.ensures))

pub returns-in-Ok-clause-does : goal.returns-in-Ok-clause-does
returns-in-Ok-clause-does c = λ x.
    rw c.if-in_foreground.false (does_turn (λ j. with_state j c.args.id.0 (Some (Stopped c.args.why))) (λ p. p) c.args.self.now _ x c.requires.on
    (ap (λ (j : Jobs). record c.args.self.now { table = j }) c.in-Ok.ensures.ok))
