use Rattle.std.proofs.Common.{None, refl}
use Rattle.tn_lines.proofs.{Ending.{at_end, failed, reads_more, reads_none, writes_more, writes_none}, Going.begun}
use Rattle.tn_lines.proofs.talk.Talk.run.Goals as goal

pub returns-in-Some-2-clause-goes_on : goal.returns-in-Some-2-clause-goes_on
returns-in-Some-2-clause-goes_on g c = λ e at first had.
    c.in_ok-over.ensures.goes_on e at first (c.loop.invariant.2 e at first had)

pub returns-in-Some-2-clause-talked : goal.returns-in-Some-2-clause-talked
returns-in-Some-2-clause-talked g c = λ e at begins.
    (c.in_ok-over.ensures.goes_on e at _ (c.loop.invariant.2 e at _ (begun e at _ c.args.self.now begins))).talked

pub returns-in-Some-2-clause-closed : goal.returns-in-Some-2-clause-closed
returns-in-Some-2-clause-closed g c = at_end _ _ None _ _ None _ _ c.in_ok-over.ensures.ends c.in-Some-2.over c.in-Some-2.is

pub returns-in-Some-2-clause-broken : goal.returns-in-Some-2-clause-broken
returns-in-Some-2-clause-broken g c =
    let had = c.loop.invariant in
    failed _ _ _ _ _ _ _ _ c.in_ok-over.ensures.ends had.3 had.4 c.in-Some-2.over c.in-Some-2.is

pub loop-init : goal.loop-init
loop-init g c = (tt, tt, λ e at first had. had, reads_none _, writes_none _ _ refl)

pub loop-preserved : goal.loop-preserved
loop-preserved g c =
    let had = c.loop.invariant in
    let one = c.in_ok-over.ensures.ends in (
      tt,
      tt,
      λ e at first lead. c.in_ok-over.ensures.goes_on e at first (had.2 e at first lead),
      reads_more _ _ _ _ _ _ _ _ one had.3 had.4,
      writes_more _ _ _ _ _ _ _ _ one had.3 had.4,
    )
