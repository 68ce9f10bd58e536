use Rattle.std.proofs.Common.{refl, subst}
use Rattle.tn_world.proofs.{Promise.{runs_more, runs_whole, runs_stop, run_follows, end_follows, headline}, Showing.{runs_grow, ends_grow}, TooFar.shows_cause}
use Rattle.tn_world.specs.{Past.HasPast, Worlds.World}
use Rattle.tn_world.proofs.world.World.run.Goals as goal

pub loop-at-init : goal.loop-at-init
loop-at-init c = record { runs = refl }

pub loop-at-preserved : goal.loop-at-preserved
loop-at-preserved c = record {
  runs = runs_more c.args.self.now c.loop-at.self c.happen.new.self c.args.events.now c.loop-at.at c.index-events-at.result
      c.loop-at-test.true c.index-events-at.is c.loop-at.invariant.runs c.in-Ok.ensures.ok;
}

pub returns-in-Err-clause-ends : goal.returns-in-Err-clause-ends
returns-in-Err-clause-ends c = runs_stop c.args.self.now c.loop-at.self c.happen.new.self c.args.events.now c.loop-at.at c.index-events-at.result c.in-Err.cause
    c.loop-at-test.true c.index-events-at.is c.loop-at.invariant.runs c.in-Err.ensures.err

pub returns-in-Err-clause-causes : goal.returns-in-Err-clause-causes
returns-in-Err-clause-causes c = shows_cause c.args.self.now c.happen.new.self c.args.events.now c.loop-at.at c.in-Err.cause
    (subst (λ (w : World). HasPast w) c.self.view_is c.self.invariant) (returns-in-Err-clause-ends c)

pub returns-in-Err-clause-follows : goal.returns-in-Err-clause-follows
returns-in-Err-clause-follows c = end_follows c.args.self.now c.happen.new.self c.args.events.now c.loop-at.at c.in-Err.cause (returns-in-Err-clause-ends c)

pub returns-in-Err-clause-headline : goal.returns-in-Err-clause-headline
returns-in-Err-clause-headline c = λ s f quiet. headline s c.happen.new.self (returns-in-Err-clause-follows c s f quiet)

pub returns-clause-runs : goal.returns-clause-runs
returns-clause-runs c = runs_whole c.args.self.now c.loop-at.self c.args.events.now c.loop-at.at c.loop-at-test.false c.loop-at.invariant.runs

pub returns-clause-follows : goal.returns-clause-follows
returns-clause-follows c = run_follows c.args.self.now c.loop-at.self c.args.events.now (returns-clause-runs c)

pub returns-clause-headline : goal.returns-clause-headline
returns-clause-headline c = λ s f quiet. headline s c.loop-at.self (returns-clause-follows c s f quiet)

pub returns-in-Err-clause-output_before : goal.returns-in-Err-clause-output_before
returns-in-Err-clause-output_before c = λ text output runs.
    ends_grow c.args.self.now c.happen.new.self c.args.events.now c.loop-at.at c.in-Err.cause text
    (subst (λ (w : World). HasPast w) c.self.view_is c.self.invariant) runs (returns-in-Err-clause-ends c) output

pub returns-clause-output : goal.returns-clause-output
returns-clause-output c = λ text output runs.
    runs_grow c.args.self.now c.loop-at.self c.args.events.now text (subst (λ (w : World). HasPast w) c.self.view_is c.self.invariant) runs
    (returns-clause-runs c) output
