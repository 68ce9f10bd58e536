use Rattle.std.proofs.Common.{refl, ◌∙◌}
use Rattle.tn_serve.proofs.serving.Open.serve_all.Goals as goal

pub loop-preserved : goal.loop-preserved
loop-preserved g c =
    let i = c.loop.invariant in (
      _,
      _,
      λ counts. c.handle.ensures.each (i.2 counts),
      λ held. c.handle.ensures.held (i.3 held),
      λ held first h. c.handle.ensures.heard (i.3 held) first (i.4 held first h),
      λ jobs made. i.5 jobs (c.handle.ensures.makes jobs made),
      c.handle.ensures.rt ∙ i.6,
    )

pub loop-init : goal.loop-init
loop-init g c = (_, _, λ counts. counts, λ held. held, λ held first h. h, λ jobs made. made, refl)

pub returns-then-is_done-clause-each : goal.returns-then-is_done-clause-each
returns-then-is_done-clause-each g c = c.loop.invariant.2

pub returns-then-is_done-clause-heard : goal.returns-then-is_done-clause-heard
returns-then-is_done-clause-heard g c = c.loop.invariant.4

pub returns-in_default-clause-each : goal.returns-in_default-clause-each
returns-in_default-clause-each g c = c.loop.invariant.2

pub returns-in_default-clause-heard : goal.returns-in_default-clause-heard
returns-in_default-clause-heard g c = c.loop.invariant.4

pub returns-clause-each : goal.returns-clause-each
returns-clause-each g c = c.loop.invariant.2

pub returns-clause-heard : goal.returns-clause-heard
returns-clause-heard g c = c.loop.invariant.4
