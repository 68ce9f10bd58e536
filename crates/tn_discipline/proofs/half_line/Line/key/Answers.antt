use Rattle.tn_discipline.proofs.lemmas.KeyRoles.{roles_of-one}
use Rattle.tn_discipline.proofs.half_line.Line.key.Goals as goal

pub returns-clause-advances : goal.returns-clause-advances
returns-clause-advances c =
    rw (← roles_of-one c.args.settings.now c.args.key, ← c.role_of.ensures) c.play.ensures.advances

pub returns-clause-dropped : goal.returns-clause-dropped
returns-clause-dropped c =
    rw (← roles_of-one c.args.settings.now c.args.key, ← c.role_of.ensures) c.play.ensures.dropped

pub returns-clause-effect : goal.returns-clause-effect
returns-clause-effect c = rw (← c.role_of.ensures) c.play.ensures.effect

pub returns-clause-line : goal.returns-clause-line
returns-clause-line c = rw (← c.role_of.ensures) c.play.ensures.line

pub returns-clause-only_a_text : goal.returns-clause-only_a_text
returns-clause-only_a_text c = rw (← c.role_of.ensures) c.play.ensures.only_a_text
