use Rattle.std.proofs.{Common.{ℕ, subst, sym, vec_items}, lemmas.Result.IfOk-weaker}
use Rattle.tn_net.specs.network.Asked.{Accepts, AcceptsAll, AcceptsAtOne}
use Rattle.tn_serve.proofs.Ending.{served_until}
use Rattle.tn_serve.specs.{Counted.{CountsSessions, HasEnded, facts_of, server_of}, Turns.HearsAll, declared.served.Served.Served}
use Rattle.tn_serve.proofs.serving.Open.serve_listeners.Goals as goal

pub returns-clause-each : goal.returns-clause-each
returns-clause-each g c =
    let server = server_of (facts_of g.V.Job.Job.fresh g.V.Jobs.Maker.gives g.V.Job.Job.reacts g.V.Job.Job.steps g.V.Job.Job.refuses) g.V.Jobs.Maker.left
    g.O.Asked.options g.O.Asked.made g.O.Asked.turned in
    IfOk-weaker c.agreed.result _ (λ (s : Served). CountsSessions server s.whole s.faulted s.refused)
    (λ agreed same. subst (λ (s : Served). CountsSessions server s.whole s.faulted s.refused) (sym same) c.run-served.ensures.each) c.agreed.ensures.served

pub returns-clause-heard : goal.returns-clause-heard
returns-clause-heard g c =
    let server = server_of (facts_of g.V.Job.Job.fresh g.V.Jobs.Maker.gives g.V.Job.Job.reacts g.V.Job.Job.steps g.V.Job.Job.refuses) g.V.Jobs.Maker.left
    g.O.Asked.options g.O.Asked.made g.O.Asked.turned in
    IfOk-weaker c.agreed.result _ (λ (s : Served). HearsAll g.V.Service.turns (HasEnded server) c.args.self.now.service s.whole s.faulted)
    (λ agreed same. subst (λ (s : Served). HearsAll g.V.Service.turns (HasEnded server) c.args.self.now.service s.whole s.faulted) (sym same)
    c.run-served.ensures.heard) c.agreed.ensures.served

pub returns-clause-all : goal.returns-clause-all
returns-clause-all g c =
    served_until c.args.self.now.serving.count (g.U.Until.ends c.args.until) c.join-accepted.result c.agreed.result c.agreed.ensures.accepted c.agreed.ensures.enough
    (λ told. subst (λ until. g.U.Until.ends until) c.in_ok-acceptor.ensures.until (c.join-accepted.ensures.told told))

pub returns-clause-accepted : goal.returns-clause-accepted
returns-clause-accepted g c =
    let ours = vec_items c.in_ok-acceptor.acceptor.promise.listeners.value in
    IfOk-weaker c.agreed.result _
    (λ (s : Served). Accepts (g.H.Network.shares c.args.self.now.rt) (g.H.Network.accepts c.args.self.now.rt) c.args.listeners.now s.accepted)
    (λ agreed same. (
      ours,
      c.in_ok-acceptor.ensures.shares,
      subst (λ (n : ℕ). AcceptsAll (AcceptsAtOne (g.H.Network.accepts c.args.self.now.rt) ours) n) (sym same)
          (subst (λ rt. AcceptsAll (AcceptsAtOne (g.H.Network.accepts rt) ours) c.join-accepted.result.count) c.in_ok-acceptor.ensures.rt
          c.join-accepted.ensures.all),
    ))
    c.agreed.ensures.accepted
