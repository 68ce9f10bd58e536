use Rattle.tn_discipline.proofs.lemmas.KeyRoles.{literal_roles}
use Rattle.tn_discipline.proofs.half_line.Line.literal.Goals as goal

pub returns-clause-advances : goal.returns-clause-advances
returns-clause-advances c =
    rw (← literal_roles c.args.settings.now.chars c.args.byte, ← c.role_of_literal.ensures) c.play.ensures.advances

pub returns-clause-dropped : goal.returns-clause-dropped
returns-clause-dropped c =
    rw (← literal_roles c.args.settings.now.chars c.args.byte, ← c.role_of_literal.ensures) c.play.ensures.dropped

pub returns-clause-effect : goal.returns-clause-effect
returns-clause-effect c = rw (← c.role_of_literal.ensures) c.play.ensures.effect

pub returns-clause-line : goal.returns-clause-line
returns-clause-line c = rw (← c.role_of_literal.ensures) c.play.ensures.line

pub returns-clause-only_a_text : goal.returns-clause-only_a_text
returns-clause-only_a_text c = rw (← c.role_of_literal.ensures) c.play.ensures.only_a_text
