use Rattle.std.proofs.Common.{arith, vec_items, ◌∙◌}
use Rattle.tn_serve.proofs.{Hearing.session_ended, Holding.{beside, has_left, is_joined}}
use Rattle.tn_serve.specs.{Counted.{HasEnded, facts_of, server_of}, Turns.live_of}
use Rattle.tn_serve.proofs.serving.Open.end_at.Goals as goal

pub returns-clause-heard : goal.returns-clause-heard
returns-clause-heard g c first h =
    let server = server_of (facts_of g.V.Job.Job.fresh g.V.Jobs.Maker.gives g.V.Job.Job.reacts g.V.Job.Job.steps g.V.Job.Job.refuses) g.V.Jobs.Maker.left
    g.O.Asked.options g.O.Asked.made g.O.Asked.turned in
    let old = c.args.self.now in
    let joined = c.join_at-left.new.self in
    let live = live_of (vec_items old.running.started) (λ s. s.caller.number) in
    let live' = live_of (vec_items joined.started) (λ s. s.caller.number) in
    session_ended g.V.Service.turns (HasEnded server) c.join_at-left.result.caller.number c.join_at-left.result.finished old.service c.ended.new.self
    c.ended.ensures.turns c.join_at-left.ensures.ended
    old.running.whole old.running.faulted joined.whole joined.faulted live live' c.join_at-left.ensures.closed c.join_at-left.ensures.end first h

pub returns-clause-held : goal.returns-clause-held
returns-clause-held g c held =
    let old = c.args.self.now in
    let joined = c.join_at-left.new.self in
    let number = c.join_at-left.result.caller.number in
    let one = is_joined old.roster (vec_items old.running.started) (vec_items joined.started) (λ s. s.caller.number) number c.join_at-left.ensures.closed
    (omega (arith, old.running.started.ok.0, joined.started.ok.0, c.join_at-left.ensures.joined)) held in
    has_left old.roster c.leave.new.self (vec_items joined.started) (λ s. s.caller.number) number
    (c.leave.ensures.leaves (c.leave.ensures.held ∙ beside old.roster (vec_items joined.started) (λ s. s.caller.number) number one)) one
