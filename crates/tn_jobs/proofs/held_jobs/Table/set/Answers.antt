use Rattle.tn_jobs.proofs.JobLemmas.{sound_set, names_set}
use Rattle.tn_jobs.proofs.held_jobs.Table.set.Goals as goal

pub invariant_of-self : goal.invariant_of-self
invariant_of-self c =
    let before = c.self.view_is in (
      sound_set c.self.inside.jobs.slots c.args.id.0 c.args.state (rw (← before) at c.requires.held)
          (rw (← before) at c.requires.one_foreground) c.requires.not_ended c.self.invariant.0,
      names_set c.self.inside.jobs.slots c.self.inside.foreground c.args.id.0 c.args.state (rw (← before) at c.requires.held)
          (rw (← before) at c.requires.one_foreground) c.self.invariant.1 c.foreground_after-self-inside.ensures,
    )
