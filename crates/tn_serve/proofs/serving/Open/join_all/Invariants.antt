use Rattle.std.proofs.Common.{◌≡◌, vec_items, vec_len}
use Rattle.tn_serve.specs.{Counted.{HasEnded, StillCounts, facts_of, server_of}, Turns.{StillHears, live_of}}
use Rattle.tn_serve.proofs.serving.Open.join_all.Given as goal

abbrev pub invariant-loop-self : goal.invariant-loop-self
invariant-loop-self g l =
    let server = server_of (facts_of g.V.Job.Job.fresh g.V.Jobs.Maker.gives g.V.Job.Job.reacts g.V.Job.Job.steps g.V.Job.Job.refuses) g.V.Jobs.Maker.left
    g.O.Asked.options g.O.Asked.made g.O.Asked.turned in
    (l.self.running.accepted ≡ l.initial.self.running.accepted)
    × StillCounts server l.initial.self.running.whole l.initial.self.running.faulted l.initial.self.running.refused l.self.running.whole l.self.running.faulted
    l.self.running.refused
    × StillHears g.V.Service.turns (HasEnded server) l.initial.self.running.whole l.initial.self.running.faulted l.initial.self.service
    (live_of (vec_items l.initial.self.running.started) (λ s. s.caller.number))
    l.self.running.whole l.self.running.faulted l.self.service (live_of (vec_items l.self.running.started) (λ s. s.caller.number))

abbrev pub decreases-loop-self : goal.decreases-loop-self
decreases-loop-self g l = vec_len l.self.running.started
