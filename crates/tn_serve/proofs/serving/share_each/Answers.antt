use Rattle.std.proofs.Common.{subst, sym, take, vec_items, ◌+◌}
use Rattle.tn_net.specs.network.Asked.{GiveEach}
use Rattle.tn_serve.proofs.Listeners.{give_next}
use Rattle.tn_serve.proofs.serving.share_each.Goals as goal

pub loop-listener-preserved : goal.loop-listener-preserved
loop-listener-preserved g c =
    let shares = g.N.Network.shares c.args.net.now in
    subst (λ ls. GiveEach shares (take (c.loop-listener.listener-index + 1) c.args.listeners.now) ls) (sym c.in_ok-push.ensures.items)
    (give_next shares c.args.listeners.now (vec_items c.loop-listener.ours) c.loop-listener.listener-index _ _ c.loop-listener-test.true
    c.loop-listener.invariant c.in_ok-share.ensures)
