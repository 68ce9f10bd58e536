use Rattle.tn_discipline.proofs.half_line.Line.end_of_file.Goals as goal

pub returns-clause-advances : goal.returns-clause-advances
returns-clause-advances c = c.play.ensures.advances

pub returns-clause-effect : goal.returns-clause-effect
returns-clause-effect c = c.play.ensures.effect

pub returns-clause-line : goal.returns-clause-line
returns-clause-line c = c.play.ensures.line

pub returns-clause-only_a_text : goal.returns-clause-only_a_text
returns-clause-only_a_text c = c.play.ensures.only_a_text
