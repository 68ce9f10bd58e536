use Rattle.std.proofs.{Common.{◌<◌, length, subst}, lemmas.Result.err_from_is_err_and}
use Rattle.tn_discipline.specs.Editing.{closing_byte, with_byte}
use Rattle.tn_discipline.proofs.{Acting.gives_text, lemmas.Editing.closing_effect}
use Rattle.tn_discipline.proofs.half_line.Line.close_by.Goals as goal

pub returns-in_err-close-clause-only_a_text : goal.returns-in_err-close-clause-only_a_text
returns-in_err-close-clause-only_a_text c =
    let p = err_from_is_err_and c.from_residual.result c.from_residual.ensures.1 in
    let old = c.args.self.now in
    let r = c.args.role in
    let some : 0 < length (with_byte old.held (closing_byte r)) =
    subst (λ b. 0 < length (with_byte old.held b)) c.closing.ensures c.in_err-close.ensures.only_a_text in
    rw p.1 (gives_text old r (with_byte old.held (closing_byte r)) (closing_effect old r c.requires) some)
