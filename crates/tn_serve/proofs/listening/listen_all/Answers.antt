use Rattle.std.proofs.Common.{map, subst, sym, take, vec_items, ◌+◌}
use Rattle.tn_net.specs.network.Asked.{GiveEach, at_place}
use Rattle.tn_serve.specs.Causes.{place_at}
use Rattle.tn_serve.proofs.Listeners.{give_place, is_refused}
use Rattle.tn_serve.proofs.listening.listen_all.Goals as goal

pub returns-in-Err-clause-refused : goal.returns-in-Err-clause-refused
returns-in-Err-clause-refused g c =
    is_refused (at_place (g.N.Network.listens c.args.net.now)) c.args.at.now c.loop-place.place-index _ c.in-Err.error c.loop-place-test.true
    c.in-Err.ensures

pub loop-place-preserved : goal.loop-place-preserved
loop-place-preserved g c =
    let listens = at_place (g.N.Network.listens c.args.net.now) in
    subst (λ ls. GiveEach listens (map place_at (take (c.loop-place.place-index + 1) c.args.at.now)) ls) (sym c.in_ok-push-in-Ok.ensures.items)
    (give_place listens c.args.at.now (vec_items c.loop-place.listeners) c.loop-place.place-index _ _ c.loop-place-test.true
    c.loop-place.invariant c.in-Ok.ensures)
