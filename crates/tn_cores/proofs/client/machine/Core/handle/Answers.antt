use Rattle.tn_cores.proofs.of_core.Marking.{turn_whole, turn_refused}
use Rattle.tn_cores.proofs.client.machine.Core.handle.Goals as goal

pub returns-in-Ok-clause-turns : goal.returns-in-Ok-clause-turns
returns-in-Ok-clause-turns c =
    turn_whole c.args.self.now c.act.new.self c.args.told _ _ _ _ _ c.requires.out c.requires.screen c.if-self.false c.drop_if.ensures c.in-Ok.ensures.ok

pub returns-in-Err-clause-turns : goal.returns-in-Err-clause-turns
returns-in-Err-clause-turns c =
    turn_refused c.args.self.now c.act.new.self c.fails.new.self c.args.told c.in-Err.fault _ _ _ _ _ c.requires.out c.requires.screen c.if-self.false
    c.drop_if-in-Err.ensures c.in-Err.ensures.err c.fails.ensures c.in-Err.ensures.cause
