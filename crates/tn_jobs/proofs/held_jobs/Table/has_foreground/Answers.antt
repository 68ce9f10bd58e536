use Rattle.std.proofs.Common.{◌∙◌}
use Rattle.tn_jobs.proofs.JobLemmas.{is_some-foreground}
use Rattle.tn_jobs.proofs.held_jobs.Table.has_foreground.Goals as goal

pub returns : goal.returns
returns c = rw (← c.self.view_is) (c.is_some.ensures ∙ is_some-foreground _ _ c.self.invariant.1)
