use Rattle.std.proofs.Common.{refl, ap, ◌∙◌, Some}
use Rattle.tn_jobs.specs.{Jobs.{Jobs, state_at}, declared.verdicts.JobState.TheVariants.{Foreground, Background}}
use Rattle.tn_session.proofs.Numbering.{first_alone, made_first}
use Rattle.tn_session.proofs.making.make_first.Goals as goal

pub returns-clause-made : goal.returns-clause-made
returns-clause-made g c =
    let a = c.in-Ok.ensures.adds in
    let first = c.in-Ok.first.0 in
    let is = c.in-Ok-foreground.ensures.ok in
    let here = ap (λ (j : Jobs). state_at j first) is ∙ c.one_job_changes.ensures.changed c.add.new.self first Background (Some Foreground) a.added in
    made_first g.J.Job.fresh _ c.new.ensures.items (first_alone c.new-table.result c.add.new.self c.foreground.new.self c.in-Ok.first c.new-table.ensures a
    (λ id. refl) here (λ id other. ap (λ (j : Jobs). state_at j id) is ∙ c.one_job_changes.ensures.others c.add.new.self first id (Some Foreground) other))
    c.requires
