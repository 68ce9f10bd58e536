use Rattle.std.proofs.Common.{ℕ, ap, inr, subst, sym, ◌∙◌}
use Rattle.tn_serve.proofs.Hearing.{jobs_made, jobs_refused, made_and_ended, not_asked, session_ended}
use Rattle.tn_serve.specs.{Counted.{HasEnded, facts_of, server_of}, Ends.whole_of, Turns.{HearsOfJobs, HearsOfNone}}
use Rattle.tn_serve.proofs.serving.Open.start.Goals as goal

pub returns-in_default-clause-none : goal.returns-in_default-clause-none
returns-in_default-clause-none g c =
    let server = server_of (facts_of g.V.Job.Job.fresh g.V.Jobs.Maker.gives g.V.Job.Job.reacts g.V.Job.Job.steps g.V.Job.Job.refuses) g.V.Jobs.Maker.left
    g.O.Asked.options g.O.Asked.made g.O.Asked.turned in
    not_asked g.V.Service.turns (HasEnded server) c.args.caller.number c.args.self.now.service

pub returns-in_default-session-clause-none : goal.returns-in_default-session-clause-none
returns-in_default-session-clause-none g c =
    let server = server_of (facts_of g.V.Job.Job.fresh g.V.Jobs.Maker.gives g.V.Job.Job.reacts g.V.Job.Job.steps g.V.Job.Job.refuses) g.V.Jobs.Maker.left
    g.O.Asked.options g.O.Asked.made g.O.Asked.turned in
    subst (λ (n : ℕ). HearsOfNone g.V.Service.turns (HasEnded server) n c.args.self.now.service c.session.new.self) c.in-Some.ensures
    (jobs_refused g.V.Service.turns (HasEnded server) c.in-Some.prepared.call.number c.args.self.now.service c.session.new.self
    c.in_default-session.ensures.turns)

pub returns-in-Some-start-clause-jobs : goal.returns-in-Some-start-clause-jobs
returns-in-Some-start-clause-jobs g c =
    let server = server_of (facts_of g.V.Job.Job.fresh g.V.Jobs.Maker.gives g.V.Job.Job.reacts g.V.Job.Job.steps g.V.Job.Job.refuses) g.V.Jobs.Maker.left
    g.O.Asked.options g.O.Asked.made g.O.Asked.turned in
    let made = subst (λ (n : ℕ). HearsOfJobs g.V.Service.turns (HasEnded server) n c.args.self.now.service c.session.new.self) c.in-Some.ensures
    (jobs_made g.V.Service.turns (HasEnded server) c.in-Some.prepared.call.number c.args.self.now.service c.session.new.self c.in-Ok.ensures.turns) in
    subst (λ (n : ℕ). HearsOfJobs g.V.Service.turns (HasEnded server) n c.args.self.now.service c.session.new.self)
    (sym (ap (λ k. k.number) c.new.ensures.caller)) made

pub returns-clause-none : goal.returns-clause-none
returns-clause-none g c =
    let server = server_of (facts_of g.V.Job.Job.fresh g.V.Jobs.Maker.gives g.V.Job.Job.reacts g.V.Job.Job.steps g.V.Job.Job.refuses) g.V.Jobs.Maker.left
    g.O.Asked.options g.O.Asked.made g.O.Asked.turned in
    let made = subst (λ (n : ℕ). HearsOfJobs g.V.Service.turns (HasEnded server) n c.args.self.now.service c.session.new.self) c.in-Some.ensures
    (jobs_made g.V.Service.turns (HasEnded server) c.in-Some.prepared.call.number c.args.self.now.service c.session.new.self c.in-Ok.ensures.turns) in
    made_and_ended g.V.Service.turns (HasEnded server) c.args.caller.number c.unstarted.result c.args.self.now.service c.session.new.self c.ended.new.self
    (ap whole_of c.unstarted.ensures) made
    (session_ended g.V.Service.turns (HasEnded server) c.args.caller.number c.unstarted.result c.session.new.self c.ended.new.self c.ended.ensures.turns
    (inr c.unstarted.ensures))

pub returns-in_default-clause-makes : goal.returns-in_default-clause-makes
returns-in_default-clause-makes g c jobs made = made

pub returns-in_default-session-clause-makes : goal.returns-in_default-session-clause-makes
returns-in_default-session-clause-makes g c = c.in_default-session.ensures.still

pub returns-in-Some-start-clause-makes : goal.returns-in-Some-start-clause-makes
returns-in-Some-start-clause-makes g c = c.in-Ok.ensures.still

pub returns-in-Some-start-clause-over : goal.returns-in-Some-start-clause-over
returns-in-Some-start-clause-over g c =
    ap (λ s. s.promise.stream.value) c.new.ensures.session ∙ c.in-Some-start.ensures.over

pub returns-clause-makes : goal.returns-clause-makes
returns-clause-makes g c jobs made = c.in-Ok.ensures.still jobs (c.ended.ensures.still jobs made)

pub new-requires-clause-asked : goal.new-requires-clause-asked
new-requires-clause-asked g c = c.in-Some-start.ensures.options ∙ c.args.self.now.asked

pub new-requires-clause-made : goal.new-requires-clause-made
new-requires-clause-made g c =
    subst (λ j. g.O.Asked.made j) (sym c.in-Some-start.ensures.jobs) (c.requires.makes c.in-Ok.jobs c.in-Ok.ensures.makes)
