use Rattle.std.proofs.Common.{arith}
use Rattle.tn_cli.proofs.Watching.{cr_lf, cr_nul, cr_cr, cr_iac, cr_plain}
use Rattle.tn_cli.proofs.unprinted.after_cr.Goals as goal

pub returns-in-10 : goal.returns-in-10
returns-in-10 c = cr_lf _ c.in-10.is

pub returns-in-0 : goal.returns-in-0
returns-in-0 c = cr_nul _ c.in-0.is

pub returns-in-13 : goal.returns-in-13
returns-in-13 c = cr_cr _ c.in-13.is

pub returns-in-255 : goal.returns-in-255
returns-in-255 c = cr_iac _ c.in-255.is

pub returns-in_default : goal.returns-in_default
returns-in_default c = cr_plain _ (omega arith) (omega arith) (omega arith) (omega arith)
