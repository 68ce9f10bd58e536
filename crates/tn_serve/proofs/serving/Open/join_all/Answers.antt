use Rattle.std.proofs.Common.{◌∙◌}
use Rattle.tn_serve.proofs.serving.Open.join_all.Goals as goal

pub loop-self-preserved : goal.loop-self-preserved
loop-self-preserved g c =
    let i = c.loop-self.invariant in
    (c.end_at.ensures.accepted ∙ i.0, λ counts. c.end_at.ensures.each (i.1 counts), λ first h. c.end_at.ensures.heard first (i.2 first h))
