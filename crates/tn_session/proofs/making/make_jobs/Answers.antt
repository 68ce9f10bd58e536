use Rattle.std.proofs.Common.{ℕ, ◌+◌, length, ap, ◌∙◌}
use Rattle.tn_session.proofs.Makers.{came, gave_first, gave_more, one_came, made_more}
use Rattle.tn_session.specs.workers.Turning.{ids_of}
use Rattle.tn_session.proofs.making.make_jobs.Goals as goal

pub loop-other-init : goal.loop-other-init
loop-other-init g c = (
  c.in_ok-made.ensures.made,
  one_came _ _ _ _ _ _ c.in-Ok-Some.field-0-is c.in-Ok-Some.ensures.makes,
  ap (λ l. length (ids_of l)) c.in_ok-made.ensures.alone,
  gave_first _ _ _ _ _ _
      (came _ _ _ c.in-Ok-Some.field-0-is c.in-Ok-Some.ensures.gives) c.in_ok-made.ensures.first c.in_ok-made.ensures.alone,
)

pub loop-other-preserved : goal.loop-other-preserved
loop-other-preserved g c =
    let i = c.loop-other.invariant in
    let next = c.in_ok-made-in-Ok-Some-next in (
      next.ensures.more,
      made_more (c.loop-other._other + 1) _ _ _ i.1 (one_came _ _ _ _ _ _ c.in-Ok-Some-next.field-0-is c.in-Ok-Some-next.ensures.makes),
      next.ensures.one ∙ ap (λ (n : ℕ). n + 1) i.2,
      gave_more _ _ _ _ _ _ _ _ _ i.3 (came _ _ _ c.in-Ok-Some-next.field-0-is c.in-Ok-Some-next.ensures.gives) next.ensures.first next.ensures.next,
    )
