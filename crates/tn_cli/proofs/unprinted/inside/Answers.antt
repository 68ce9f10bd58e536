use Rattle.tn_cli.proofs.Watching.{inside_iac, inside_plain}
use Rattle.tn_cli.proofs.unprinted.inside.Goals as goal

pub returns-then-byte-eq-IAC : goal.returns-then-byte-eq-IAC
returns-then-byte-eq-IAC c = inside_iac c.args.count c.args.byte c.if-byte-eq-IAC.true

pub returns : goal.returns
returns c = inside_plain c.args.count c.longer.result c.args.byte c.if-byte-eq-IAC.false c.longer.ensures
