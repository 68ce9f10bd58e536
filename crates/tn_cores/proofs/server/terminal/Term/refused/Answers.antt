use Rattle.std.proofs.Common.{[]}
use Rattle.tn_cores.proofs.of_terminal.Handling.{handled_refused, stops_refused}
use Rattle.tn_cores.specs.{server.Run.ends_by, declared.faults.Ended.TheVariants.Fault}
use Rattle.tn_cores.specs.declared.faults.SessionFault.TheVariants as fault
use Rattle.tn_cores.proofs.server.terminal.Term.refused.Goals as goal

pub returns-in-Ok-clause-ok : goal.returns-in-Ok-clause-ok
returns-in-Ok-clause-ok c =
    handled_refused c.args.self.now c.ends_by.new.self c.flush-pulled.new.self c.halt-put.new.self _ _ c.halt-put.result c.requires
    (c.ends_by.ensures.does _) c.in-Ok.ensures.ok (c.halt-put.ensures.is, c.halt-put.ensures.put)

pub returns-in-Err-clause-err : goal.returns-in-Err-clause-err
returns-in-Err-clause-err c =
    stops_refused c.args.self.now c.ends_by.new.self c.flush-pulled.new.self c.halt-put.new.self _ _ c.halt-put.result c.requires
    (c.ends_by.ensures.does _) c.in-Err.ensures.err (c.halt-put.ensures.is, c.halt-put.ensures.put)

pub returns-in-Err-clause-grows : goal.returns-in-Err-clause-grows
returns-in-Err-clause-grows c = λ d at. c.in-Err.ensures.grows (ends_by (Fault fault.Memory) d) ((c.ends_by.ensures.does []).leads d at)
