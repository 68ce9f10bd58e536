use Rattle.std.proofs.Common.{◌≡◌, ◌≤◌, [], sym, ◌∙◌, subst, arith}
use Rattle.tn_discipline.specs.{Advancing.Advances, Limits.max_counted, HalfLine.{HalfLine, line_length}, Runs.{line_after_all, ordinary_roles}}
use Rattle.tn_discipline.proofs.lemmas.Runs.{ordinary_advance, front_kept}
use Rattle.tn_discipline.proofs.half_line.Line.keep_run.Goals as goal

pub returns-clause-advances : goal.returns-clause-advances
returns-clause-advances c =
    let line = c.args.self.now in
    let fits : line_length line ≤ max_counted line.limit = omega (arith, c.keep_front.ensures.within) in
    let each : line_after_all line (ordinary_roles c.args.bytes.now) ≡ c.keep_front.new.self =
    front_kept line c.args.bytes.now c.keep_front.result c.keep_front.ensures.count fits ∙ sym c.keep_front.ensures.line in
    subst (λ (new : HalfLine). Advances line (ordinary_roles c.args.bytes.now) [] new) each (ordinary_advance c.args.bytes.now line)

pub returns-clause-each : goal.returns-clause-each
returns-clause-each c =
    let line = c.args.self.now in
    let fits : line_length line ≤ max_counted line.limit = omega (arith, c.keep_front.ensures.within) in
    c.keep_front.ensures.line ∙ sym (front_kept line c.args.bytes.now c.keep_front.result c.keep_front.ensures.count fits)
