use Rattle.std.proofs.Common.{Bool, subst, sym, ◌∙◌}
use Rattle.tn_net.specs.network.Asked.{ReachesService}
use Rattle.tn_net.proofs.network.reaching.reach_service.Goals as goal

pub returns-then-not-names_path : goal.returns-then-not-names_path
returns-then-not-names_path g c =
    let net = c.args.net.now in
    let host = c.args.host.now in
    subst (λ (b : Bool). ReachesService b (g.N.Network.joins net host) (g.N.Network.finds net host c.args.port) (g.N.Network.dials net) c.reach.result)
    (sym (sym c.names_path.ensures ∙ c.if-not-names_path.true)) c.reach.ensures.reaches

pub returns : goal.returns
returns g c =
    let net = c.args.net.now in
    let host = c.args.host.now in
    subst (λ (b : Bool). ReachesService b (g.N.Network.joins net host) (g.N.Network.finds net host c.args.port) (g.N.Network.dials net) c.join-joined.result)
    (sym (sym c.names_path.ensures ∙ c.if-not-names_path.false)) c.join-joined.ensures
