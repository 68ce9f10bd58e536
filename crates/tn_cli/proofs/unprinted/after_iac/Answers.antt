use Rattle.std.proofs.Common.{refl, arith}
use Rattle.tn_cli.proofs.Watching.{iac_iac, iac_sb, iac_command, iac_other}
use Rattle.tn_cli.proofs.unprinted.after_iac.Goals as goal

pub returns-then-byte-eq-IAC-clause-leads : goal.returns-then-byte-eq-IAC-clause-leads
returns-then-byte-eq-IAC-clause-leads c = iac_iac _ c.if-byte-eq-IAC.true

pub returns-then-byte-eq-SB-clause-leads : goal.returns-then-byte-eq-SB-clause-leads
returns-then-byte-eq-SB-clause-leads c = iac_sb _ c.if-byte-eq-SB.true

pub returns-in-Some-from_code-clause-leads : goal.returns-in-Some-from_code-clause-leads
returns-in-Some-from_code-clause-leads c = iac_command c.in-Some-from_code.field-0 _ ((c.in-Some-from_code.ensures c.in-Some-from_code.field-0).0 refl)

pub returns-clause-leads : goal.returns-clause-leads
returns-clause-leads c =
    iac_other _ (omega arith) c.if-byte-eq-IAC.false c.if-byte-eq-SB.false
    (λ verb is. c.in_default.not-Some verb ((c.from_code.ensures verb).1 is))
    (λ command is. c.in_default-from_code.not-Some command ((c.from_code-2.ensures command).1 is))
