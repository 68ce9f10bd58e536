use Rattle.std.proofs.Common.{rules, inl, inr, refl}
use Rattle.tn_c.proofs.parts.server.HeldServer.pull.Goals as goal

pub returns-in-Ok : goal.returns-in-Ok
returns-in-Ok c =
    record {
      codes = inl refl;
      step = λ _. c.in-Ok.ensures.step;
      sends = λ _. c.in-Ok.ensures.out;
      counts = λ _. c.in-Ok.ensures.count;
      entry = refl;
      seen = refl;
      owned = refl;
      err = search rules;
      err_count = search rules;
      grows = search rules;
      full = search rules;
    }

pub returns-in-Err : goal.returns-in-Err
returns-in-Err c =
    record {
      codes = inr refl;
      step = search rules;
      sends = search rules;
      counts = search rules;
      entry = refl;
      seen = refl;
      owned = refl;
      err = search rules;
      err_count = search rules;
      grows = λ _. c.in-Err.ensures.grows;
      full = λ _. c.in-Err.ensures.full;
    }
