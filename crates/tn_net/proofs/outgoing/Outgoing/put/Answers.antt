use Rattle.std.proofs.Common.{Some, ap, ◌∙◌}
use Rattle.crossbeam_channel.specs.Claims.{view}
use Rattle.tn_cores.proofs.lemmas.queue.Queue.{leaves, puts}
use Rattle.tn_net.proofs.Queued.{ends_with, no_piece, none_behind, put_there}
use Rattle.tn_net.specs.Queue.{PieceHand}
use Rattle.tn_net.proofs.outgoing.Outgoing.put.Goals as goal

pub send_as-requires-clause-rule : goal.send_as-requires-clause-rule
send_as-requires-clause-rule g c =
    let t = put_there (view c.args.self.now.pass).put c.args.self.now.finished c.args.self.now.ends in
    (puts _ c.args.self.now.pass.id (view c.args.self.now.pass) _ t.0 t.1, leaves c.args.self.now.pass.id (view c.args.self.now.pass))

pub invariant_of-self-clause-ends : goal.invariant_of-self-clause-ends
invariant_of-self-clause-ends g c =
    let t = put_there (view c.args.self.now.pass).put c.args.self.now.finished c.args.self.now.ends in
    ends_with (view c.args.self.now.pass) (view c.send_as.new.pass) c.args.piece t.0 t.1 (t.2 ∙ c.requires.open) c.in-Ok.ensures.rule
    ∙ ap Some (no_piece c.args.piece c.is_none-ends.result c.is_none-ends.ensures)

pub invariant_of-self-clause-last : goal.invariant_of-self-clause-last
invariant_of-self-clause-last g c =
    let t = put_there (view c.args.self.now.pass).put c.args.self.now.finished c.args.self.now.ends in
    none_behind (view c.args.self.now.pass) (view c.send_as.new.pass) c.args.piece t.0 t.1 (t.2 ∙ c.requires.open) c.in-Ok.ensures.rule

pub invariant_of-self-clause-alone : goal.invariant_of-self-clause-alone
invariant_of-self-clause-alone g c = ap (λ (v : PieceHand). v.taken) c.in-Ok.ensures.rule ∙ c.args.self.now.alone
