use Rattle.std.proofs.Common.{ℕ, List, ◌++◌, ap, ◌∙◌}
use Rattle.crossbeam_channel.specs.Claims.{view}
use Rattle.tn_net.proofs.Queued.{put_there, wrote_whole}
use Rattle.tn_net.proofs.outgoing.OutgoingWrite.write.Goals as goal

pub returns-clause-bytes : goal.returns-clause-bytes
returns-clause-bytes g c =
    let t = put_there (view c.args.self.now.pass).put c.args.self.now.finished c.args.self.now.ends in
    let is = c.in_ok-extend_from_slice.ensures.items ∙ ap (λ (l : List ℕ). l ++ c.args.buf.now) c.new-piece.ensures.items in
    wrote_whole (view c.args.self.now.pass) (view c.put.new.self.pass) c.extend_from_slice.new.self t.0 c.args.buf.now t.1 c.in_ok-put.ensures.put is
