use Rattle.std.proofs.Common.{refl, lit<, arith}
use Rattle.tn_nvt.specs.Machine.{Outside, AfterIac, AfterVerb}
use Rattle.tn_nvt.proofs.{Escaping.{then_second, then_third}, Steps.{iac, iac_verb, verb_option}}
use Rattle.tn_nvt.proofs.escapes.after_first_iac.Goals as goal

pub returns-in-Some-clause-escapes : goal.returns-in-Some-clause-escapes
returns-in-Some-clause-escapes c =
    let verb = c.in-Some.verb in
    record {
      some = lit< tt;
      within = omega arith;
      special = (tt, tt);
      advances = then_third c.args.bytes.now AfterIac (AfterVerb verb) Outside _ (omega arith) (iac _ c.requires.first)
          (iac_verb verb _ ((c.in-Some.ensures verb).0 refl)) (verb_option verb _);
    }

pub returns-clause-escapes : goal.returns-clause-escapes
returns-clause-escapes c = record {
  some = lit< tt;
  within = omega arith;
  special = c.after_iac-next.ensures.special;
  advances = then_second c.args.bytes.now AfterIac _ _ (omega arith) (iac _ c.requires.first) c.after_iac-next.ensures.advances;
}
