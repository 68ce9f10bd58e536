use Rattle.tn_net.proofs.of_network.Tried.{any_suits, reaches_any}
use Rattle.tn_net.specs.network.Dialing.{suits}
use Rattle.tn_net.proofs.network.reaching.reach.Goals as goal

pub returns-clause-reaches : goal.returns-clause-reaches
returns-clause-reaches g c =
    reaches_any (g.N.Network.finds c.args.net.now c.args.host.now c.args.port) (g.N.Network.dials c.args.net.now) (suits c.within.result) c.reach_by.result
    (λ address. any_suits c.within.result address c.within.ensures.family c.within.ensures.source) c.reach_by.ensures.reaches
