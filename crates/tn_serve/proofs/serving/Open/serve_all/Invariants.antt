use Rattle.std.proofs.Common.{◌≡◌, vec_items}
use Rattle.tn_serve.specs.{Counted.{HasEnded, StillCounts, facts_of, server_of}, Places.AreHeld, Makers.StillMakes, Turns.{StillHears, live_of}}
use Rattle.tn_serve.proofs.serving.Open.serve_all.Given as goal

abbrev pub invariant-loop : goal.invariant-loop
invariant-loop g l =
    (goal.iterator-loop g).can_next l.iterator' × (goal.iterator-loop g).is_finite l.iterator'
    × StillCounts (server_of (facts_of g.V.Job.Job.fresh g.V.Jobs.Maker.gives g.V.Job.Job.reacts g.V.Job.Job.steps g.V.Job.Job.refuses) g.V.Jobs.Maker.left
    g.O.Asked.options g.O.Asked.made g.O.Asked.turned)
    l.fn.self.running.whole l.fn.self.running.faulted l.fn.self.running.refused l.self.running.whole l.self.running.faulted l.self.running.refused
    × (AreHeld l.fn.self.roster (vec_items l.fn.self.running.started) (λ s. s.caller.number)
    → AreHeld l.self.roster (vec_items l.self.running.started) (λ s. s.caller.number))
    × (AreHeld l.fn.self.roster (vec_items l.fn.self.running.started) (λ s. s.caller.number)
    → StillHears g.V.Service.turns (HasEnded (server_of (facts_of g.V.Job.Job.fresh g.V.Jobs.Maker.gives g.V.Job.Job.reacts g.V.Job.Job.steps
    g.V.Job.Job.refuses) g.V.Jobs.Maker.left g.O.Asked.options g.O.Asked.made g.O.Asked.turned))
    l.fn.self.running.whole l.fn.self.running.faulted l.fn.self.service (live_of (vec_items l.fn.self.running.started) (λ s. s.caller.number))
    l.self.running.whole l.self.running.faulted l.self.service (live_of (vec_items l.self.running.started) (λ s. s.caller.number)))
    × StillMakes g.V.Service.makes l.fn.self.service l.self.service × (l.self.rt ≡ l.fn.self.rt)
