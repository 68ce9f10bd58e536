use Rattle.tn_cores.proofs.of_terminal.Doing.{does_stop, does_leave}
use Rattle.tn_cores.proofs.server.terminal.Term.moves.Goals as goal

pub returns-in-Stopped-clause-does : goal.returns-in-Stopped-clause-does
returns-in-Stopped-clause-does c = λ x.
    rw c.in-Stopped.is (does_stop c.args.id.0 c.args.state c.in-Stopped.why _ c.args.self.now c.stop.new.self x c.requires.on c.requires.held
    c.is_foreground.ensures (c.stop.ensures.does x))

pub returns-in-Ended-clause-does : goal.returns-in-Ended-clause-does
returns-in-Ended-clause-does c = λ x.
    rw c.in-Ended.is (does_leave c.args.id.0 c.args.state _ c.args.self.now c.end.new.self x c.requires.on c.requires.held c.is_foreground-in-Ended.ensures
    (c.end.ensures.does x))
