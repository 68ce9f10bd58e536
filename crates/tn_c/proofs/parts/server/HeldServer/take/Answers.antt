use Rattle.std.proofs.Common.{rules, inl, refl}
use Rattle.tn_c.proofs.parts.server.HeldServer.take.Goals as goal

pub returns-in-Ok : goal.returns-in-Ok
returns-in-Ok c =
    record {
      codes = inl refl;
      step = λ _. c.in-Ok.ensures.step;
      sends = λ _. c.in-Ok.ensures.out;
      entry = λ _. c.in-Ok.ensures.entry;
      seen = refl;
      owned = refl;
      kind = λ _. c.kind_number.ensures;
      err = search rules;
      err_kind = search rules;
      grows = search rules;
      full = search rules;
    }
