use Rattle.std.proofs.Common.{Ok, Contains, refl, sym, ◌∙◌, [], ◌∷◌, ◌++◌, subst}
use Rattle.std.specs.{Array.Iter.array_into_iter_items, Net.ToAddrs.{HostAddrs, host_addrs}, List.filter}
use Rattle.tn_net.specs.network.{Asked.{AreRefused, RefuseAll}, Dialing.suits}
use Rattle.tn_net.proofs.of_network.Tried.{none_left, refuse_more, taken, tried_one, tried_suited, one_suits, none_suits}
use Rattle.tn_net.proofs.network.reaching.reach_by.Goals as goal

pub loop-address-init : goal.loop-address-init
loop-address-init g c = (_, _, ([], refl, refl))

pub returns-in-Ok-dial-clause-reaches : goal.returns-in-Ok-dial-clause-reaches
returns-in-Ok-dial-clause-reaches g c =
    let i = c.loop-address.invariant.2 in
    let step = taken _ _ _ _ c.in-Some.address c.in-Some.ensures.steps.0 c.in-Some.ensures.steps.1 in (
      Ok c.in-Ok.addresses,
      c.in-Ok.ensures,
      (
        c.in-Ok.addresses,
        refl,
        c.in-Some.address,
        subst (λ (it : HostAddrs). Contains (host_addrs it) c.in-Some.address) c.into_iter-address-iterator.ensures.into_iter_gives
            (tried_one _ i.0 _ _ c.in-Some.address i.1 step).1,
        sym c.suits.ensures ∙ c.if-not-suits.false,
        c.in-Ok-dial.ensures,
      ),
    )

pub loop-address-preserved : goal.loop-address-preserved
loop-address-preserved g c =
    let i = c.loop-address.invariant.2 in
    let step = taken _ _ _ _ c.in-Some.address c.in-Some.ensures.steps.0 c.in-Some.ensures.steps.1 in
    let dials = g.N.Network.dials c.args.net.now in
    let each = refuse_more dials (filter (suits c.args.dialing) i.0) c.in-Some.address _ _ c.in-Err-dial.error i.2 c.in-Err-dial.ensures in
    let suit = one_suits (suits c.args.dialing) i.0 c.in-Some.address (sym c.suits.ensures ∙ c.if-not-suits.false) in
    (_, _, (i.0 ++ c.in-Some.address ∷ [], (tried_one _ i.0 _ _ c.in-Some.address i.1 step).0, subst (λ l. RefuseAll dials l c.from-last.result c.in-Err-dial.error) (sym suit) each))

pub loop-address-preserved-then-not-suits : goal.loop-address-preserved-then-not-suits
loop-address-preserved-then-not-suits g c =
    let i = c.loop-address.invariant.2 in
    let step = taken _ _ _ _ c.in-Some.address c.in-Some.ensures.steps.0 c.in-Some.ensures.steps.1 in
    let dials = g.N.Network.dials c.args.net.now in
    let passed = none_suits (suits c.args.dialing) i.0 c.in-Some.address (sym c.suits.ensures ∙ c.if-not-suits.true) in
    (_, _, (i.0 ++ c.in-Some.address ∷ [], (tried_one _ i.0 _ _ c.in-Some.address i.1 step).0, subst (λ l. RefuseAll dials l c.from-last.result c.loop-address.last) (sym passed) i.2))

pub returns-clause-reaches : goal.returns-clause-reaches
returns-clause-reaches g c =
    let i = c.loop-address.invariant.2 in
    let it = c.loop-address.address-iterator in
    let dials = g.N.Network.dials c.args.net.now in
    let each = tried_suited dials (suits c.args.dialing) _ i.0 _ _ _ i.1 (none_left (array_into_iter_items it.iter) it.n (λ some. (c.in-None.ensures.steps some).0)) i.2 in (
      Ok c.in-Ok.addresses,
      c.in-Ok.ensures,
      subst (λ (it : HostAddrs). AreRefused dials (filter (suits c.args.dialing) (host_addrs it)) c.loop-address.last) c.into_iter-address-iterator.ensures.into_iter_gives
          (_, c.from-last.ensures, each),
    )
