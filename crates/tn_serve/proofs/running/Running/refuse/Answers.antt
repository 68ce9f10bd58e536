use Rattle.tn_serve.proofs.Counting.{one_refused}
use Rattle.tn_serve.specs.Counted.{facts_of, server_of}
use Rattle.tn_serve.proofs.running.Running.refuse.Goals as goal

pub returns-clause-each : goal.returns-clause-each
returns-clause-each g c =
    let server = server_of (facts_of g.J.Job.fresh g.M.Maker.gives g.J.Job.reacts g.J.Job.steps g.J.Job.refuses) g.M.Maker.left g.O.Asked.options g.O.Asked.made
    g.O.Asked.turned in
    one_refused server c.args.self.now.whole c.args.self.now.faulted c.args.self.now.refused c.args._told.now c.requires.told
