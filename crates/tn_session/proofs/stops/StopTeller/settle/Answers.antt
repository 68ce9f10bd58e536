use Rattle.std.proofs.Common.{◌≡◌, true, subst}
use Rattle.crossbeam_channel.specs.Claims.{view}
use Rattle.tn_cores.proofs.lemmas.queue.Queue as channel
use Rattle.tn_session.proofs.Stopped.{told_first, same_words}
use Rattle.tn_session.specs.workers.Stops.{has_stopped}
use Rattle.tn_session.proofs.stops.StopTeller.settle.Goals as goal

pub absorb-requires-clause-rule : goal.absorb-requires-clause-rule
absorb-requires-clause-rule c = channel.joins c.args.self.pass.id (view c.args.self.pass) c.in-Some.field-0.pass.id (view c.in-Some.field-0.pass)

pub learn_as-requires-clause-rule : goal.learn_as-requires-clause-rule
learn_as-requires-clause-rule c = channel.leaves c.absorb.new.pass.id (view c.absorb.new.pass)

pub another-requires-clause-rule : goal.another-requires-clause-rule
another-requires-clause-rule c = channel.cut_taker c.learn_as.new.pass.id (view c.learn_as.new.pass)

pub returns-clause-same : goal.returns-clause-same
returns-clause-same c = same_words (view c.args.self.pass) (view c.in-Some.field-0.pass) (view c.absorb.new.pass) (view c.learn_as.new.pass)
    (view c.another.new.pass) c.requires.told.0 c.requires.told.1 c.absorb.ensures.rule c.learn_as.ensures.channel.2 c.another.ensures.rule.0

pub returns-clause-told : goal.returns-clause-told
returns-clause-told c took none = told_first (view c.args.self.pass) (view c.in-Some.field-0.pass)
    (view c.absorb.new.pass) c.learn_as.ensures.rule.0 c.absorb.ensures.rule c.learn_as.ensures.rule.1
    (subst (λ o. has_stopped o ≡ true) c.in-Some.is took) none
