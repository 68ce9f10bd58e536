use Rattle.tn_cores.proofs.of_terminal.Turning.{turn_idle, turn_whole, turn_refused}
use Rattle.tn_cores.proofs.server.terminal.Term.handle.Goals as goal

pub returns-then-self-clause-turns : goal.returns-then-self-clause-turns
returns-then-self-clause-turns c = turn_idle c.args.self.now c.args.message _ c.idle_put.result c.requires c.if-self.true c.idle_put.ensures

pub returns-in-Ok-clause-turns : goal.returns-in-Ok-clause-turns
returns-in-Ok-clause-turns c = turn_whole c.args.self.now c.act.new.self c.args.message _ _ c.in-Ok.put c.requires c.if-self.false c.in-Ok.ensures.ok

pub returns-in-Err-clause-turns : goal.returns-in-Err-clause-turns
returns-in-Err-clause-turns c =
    turn_refused c.args.self.now c.act.new.self c.fails-last.new.self c.args.message _ _ _ _ _ c.fails-last.result c.requires c.if-self.false
    c.in-Err.ensures.err c.fails-last.ensures.progress c.fails-last.ensures.put c.in-Err.ensures.cause
