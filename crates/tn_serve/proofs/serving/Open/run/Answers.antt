use Rattle.std.proofs.Common.{ℕ, subst, sym, vec_items, ◌∙◌}
use Rattle.tn_serve.proofs.{Counting.counts_from_none, Hearing.hears_all, Holding.none_held}
use Rattle.tn_serve.specs.{Counted.{HasEnded, facts_of, server_of}, Turns.HearsAll}
use Rattle.tn_serve.proofs.serving.Open.run.Goals as goal

pub returns-clause-each : goal.returns-clause-each
returns-clause-each g c =
    let server = server_of (facts_of g.V.Job.Job.fresh g.V.Jobs.Maker.gives g.V.Job.Job.reacts g.V.Job.Job.steps g.V.Job.Job.refuses) g.V.Jobs.Maker.left
    g.O.Asked.options g.O.Asked.made g.O.Asked.turned in
    let started = c.args.self.now.running in
    let ended = c.serve_all.new.self.running in
    let joined = c.join_all.new.self.running in
    let counts = c.served.ensures.counts in
    rw counts.0 (rw counts.1 (rw counts.2 (counts_from_none server started.whole started.faulted started.refused ended.whole ended.faulted ended.refused
    joined.whole joined.faulted joined.refused
    c.requires.counts c.serve_all.ensures.each c.join_all.ensures.each)))

pub returns-clause-heard : goal.returns-clause-heard
returns-clause-heard g c =
    let server = server_of (facts_of g.V.Job.Job.fresh g.V.Jobs.Maker.gives g.V.Job.Job.reacts g.V.Job.Job.steps g.V.Job.Job.refuses) g.V.Jobs.Maker.left
    g.O.Asked.options g.O.Asked.made g.O.Asked.turned in
    let old = c.args.self.now in
    let started = old.running in
    let joined = c.join_all.new.self in
    let served = c.served.result in
    let counts = c.served.ensures.counts in
    subst (λ (n : ℕ). HearsAll g.V.Service.turns (HasEnded server) old.service n served.faulted) (sym counts.0)
    (subst (λ (n : ℕ). HearsAll g.V.Service.turns (HasEnded server) old.service joined.running.whole n) (sym counts.1)
    (hears_all g.V.Service.turns (HasEnded server) (vec_items started.started) (vec_items joined.running.started) (λ s. s.caller.number)
    started.whole started.faulted joined.running.whole joined.running.faulted old.service joined.service
    (c.requires.counts.0, c.requires.counts.1) (sym started.started.ok.0 ∙ c.requires.none)
    (sym joined.running.started.ok.0 ∙ c.join_all.ensures.none)
    (λ first h. c.join_all.ensures.heard first (c.serve_all.ensures.heard
    (none_held old.roster (vec_items started.started) (λ s. s.caller.number) c.requires.empty
    (sym started.started.ok.0 ∙ c.requires.none)) first h))))
