use Rattle.crossbeam_channel.specs.Claims.{view}
use Rattle.tn_net.proofs.Queued.{end_either, put_there}
use Rattle.tn_net.proofs.outgoing.Outgoing.end.Goals as goal

pub returns-then-not-self : goal.returns-then-not-self
returns-then-not-self g c =
    let t = put_there (view c.args.self.now.pass).put c.args.self.now.finished c.args.self.now.ends in
    end_either c.put.result (view c.args.self.now.pass) (view c.put.new.self.pass) t.0 t.1 c.put.ensures.put c.put.ensures.kept
