use Rattle.std.proofs.Common.{subst, sym, ◌∙◌}
use Rattle.crossbeam_channel.specs.Claims.{view}
use Rattle.tn_cores.proofs.lemmas.queue.Queue.{joins, leaves}
use Rattle.tn_cores.specs.queue.Queue.{LeftOver}
use Rattle.tn_net.proofs.Queued.{put_there}
use Rattle.tn_net.specs.Queue.{PieceHand, Pieces}
use Rattle.tn_net.proofs.outgoing.Outgoing.settle.Goals as goal

pub absorb-requires-clause-rule : goal.absorb-requires-clause-rule
absorb-requires-clause-rule g c = joins c.args.self.pass.id (view c.args.self.pass) c.args.taker.id (view c.args.taker)

pub learn_as-requires-clause-rule : goal.learn_as-requires-clause-rule
learn_as-requires-clause-rule g c = leaves c.absorb.new.pass.id (view c.absorb.new.pass)

pub returns : goal.returns
returns g c =
    let t = put_there (view c.args.self.pass).put c.args.self.finished c.args.self.ends in record {
      joined = c.learn_as.ensures.channel.2 ∙ c.absorb.ensures.rule;
      left = subst (λ (v : PieceHand). (items : Pieces) × LeftOver v items) (sym c.learn_as.ensures.channel.2) c.learn_as.ensures.rule;
      known = (t.0, t.1);
      alone = c.args.self.alone;
      last = c.args.self.last;
    }
