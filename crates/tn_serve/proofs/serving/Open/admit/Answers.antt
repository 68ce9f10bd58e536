use Rattle.std.proofs.Common.{ap, inr, subst, sym, vec_items, ◌∙◌}
use Rattle.tn_session.specs.roster.Held.{Held}
use Rattle.tn_serve.proofs.{Hearing.none_counted, Holding.{entered, no_place}}
use Rattle.tn_serve.specs.{Counted.{HasEnded, facts_of, server_of}, Places.AreHeld}
use Rattle.tn_serve.proofs.serving.Open.admit.Goals as goal

pub returns-in_default-clause-held : goal.returns-in_default-clause-held
returns-in_default-clause-held g c held =
    let old = c.args.self.now in
    subst (λ l. AreHeld c.turn_away.new.self.roster l (λ s. s.caller.number)) (sym (ap vec_items c.turn_away.ensures.started))
    (subst (λ (r : Held). AreHeld r (vec_items old.running.started) (λ s. s.caller.number)) (sym (c.turn_away.ensures.roster ∙ c.in_default.ensures.same)) held)

pub returns-in_default-clause-full : goal.returns-in_default-clause-full
returns-in_default-clause-full g c held =
    let old = c.args.self.now in
    inr (no_place old.roster c.enter.new.roster (vec_items old.running.started) (λ s. s.caller.number) _ old.serving.sessions _ _ c.in_default.ensures.same
    old.limit old.running.started.ok.0 held c.in_default.ensures.full)

pub returns-clause-held : goal.returns-clause-held
returns-clause-held g c held =
    let old = c.args.self.now in
    c.take_in.ensures.held (entered old.roster c.enter.new.roster (vec_items old.running.started) (λ s. s.caller.number) c.in-Some.number
    c.in-Some.ensures.enters held)

pub returns-clause-heard : goal.returns-clause-heard
returns-clause-heard g c held =
    let old = c.args.self.now in
    c.take_in.ensures.heard (entered old.roster c.enter.new.roster (vec_items old.running.started) (λ s. s.caller.number) c.in-Some.number
    c.in-Some.ensures.enters held)

pub returns-in_default-clause-heard : goal.returns-in_default-clause-heard
returns-in_default-clause-heard g c held =
    let server = server_of (facts_of g.V.Job.Job.fresh g.V.Jobs.Maker.gives g.V.Job.Job.reacts g.V.Job.Job.steps g.V.Job.Job.refuses) g.V.Jobs.Maker.left
    g.O.Asked.options g.O.Asked.made g.O.Asked.turned in
    let old = c.args.self.now in
    let new = c.turn_away.new.self in
    none_counted g.V.Service.turns (HasEnded server) (vec_items old.running.started) (vec_items new.running.started) (λ s. s.caller.number)
    old.running.whole old.running.faulted new.running.whole new.running.faulted old.service new.service
    (ap vec_items c.turn_away.ensures.started) c.turn_away.ensures.counts.0 c.turn_away.ensures.counts.1 c.turn_away.ensures.service
