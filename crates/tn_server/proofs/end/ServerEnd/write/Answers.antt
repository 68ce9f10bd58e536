use Rattle.tn_server.proofs.Calling.{written_some}
use Rattle.tn_server.proofs.end.ServerEnd.write.Goals as goal

pub returns-clause-step : goal.returns-clause-step
returns-clause-step c = rw (← c.self.view_is) (written_some _ c.write.new.self c.write.result c.args.bytes.now c.write.ensures.count c.write.ensures.pair)
