use Rattle.std.proofs.Common.{◌∷◌, [], inl, refl, lit<, arith}
use Rattle.tn_nvt.specs.{declared.items.Item.TheVariants.{Byte, Newline}, Machine.{Outside, AfterCr}}
use Rattle.tn_nvt.proofs.{Escaping.then_second, Steps.{cr, cr_lf, cr_nul}}
use Rattle.tn_nvt.proofs.escapes.after_first_cr.Goals as goal

pub returns-in-10-clause-escapes : goal.returns-in-10-clause-escapes
returns-in-10-clause-escapes c = λ body. record {
  some = lit< tt;
  within = omega arith;
  special = (tt, tt);
  advances = then_second c.args.bytes.now AfterCr Outside (Newline ∷ []) (omega arith) (cr _ c.requires.first) (cr_lf _ c.in-10.is);
}

pub returns-in-0-clause-escapes : goal.returns-in-0-clause-escapes
returns-in-0-clause-escapes c = λ body. record {
  some = lit< tt;
  within = omega arith;
  special = (inl refl, tt);
  advances = then_second c.args.bytes.now AfterCr Outside (Byte 13 ∷ []) (omega arith) (cr _ c.requires.first) (cr_nul _ c.in-0.is);
}
