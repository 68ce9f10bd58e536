use Rattle.std.proofs.Common.{subst, sym}
use Rattle.tn_cli.specs.{Unprinted.Leads, declared.unprinted.Stand.TheVariants.{Between, InsideIac}}
use Rattle.tn_cli.proofs.Watching.{inside_iac_iac, cut_off}
use Rattle.tn_cli.proofs.unprinted.inside_iac.Goals as goal

pub returns-then-byte-eq-IAC : goal.returns-then-byte-eq-IAC
returns-then-byte-eq-IAC c = inside_iac_iac c.args.count c.longer.result c.args.byte c.if-byte-eq-IAC.true c.longer.ensures

pub returns-then-byte-eq-SE : goal.returns-then-byte-eq-SE
returns-then-byte-eq-SE c = subst (λ b. Leads (InsideIac c.args.count) b c.ended.result Between) (sym c.if-byte-eq-SE.true) c.ended.ensures

pub returns : goal.returns
returns c = cut_off c.args.count c.args.byte c.after_iac-next.result.1 c.after_iac-next.result.0 c.if-byte-eq-IAC.false c.if-byte-eq-SE.false
    c.after_iac-next.ensures.escape c.after_iac-next.ensures.leads
