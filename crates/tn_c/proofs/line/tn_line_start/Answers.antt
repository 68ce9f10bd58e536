use Rattle.std.proofs.{Common.{◌≡◌, arith}, lemmas.Grind.common_steps}
use Rattle.tn_c.specs.parts.Codes.{code_number}
use Rattle.tn_c.proofs.line.tn_line_start.Goals as goal

pub returns : goal.returns
returns c =
    let numbers : c.number-2.result ≡ code_number c.hold.result = c.number-2.ensures.value in
    grind (arith, common_steps)
