use Rattle.crossbeam_channel.specs.Claims.{view}
use Rattle.tn_cores.proofs.lemmas.queue.Queue.{leaves, takes}
use Rattle.tn_net.proofs.Queued.{there}
use Rattle.tn_net.proofs.sending.Sending.next.Goals as goal

pub recv_as-requires-clause-rule : goal.recv_as-requires-clause-rule
recv_as-requires-clause-rule g c =
    let t = there (view c.args.self.now.pass).taken c.args.self.now.takes in
    (takes c.args.self.now.pass.id (view c.args.self.now.pass) t.0 t.1, leaves c.args.self.now.pass.id (view c.args.self.now.pass))
