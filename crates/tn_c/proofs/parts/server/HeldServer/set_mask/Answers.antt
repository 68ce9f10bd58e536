use Rattle.std.proofs.Common.{rules, inl, Err, refl, ap}
use Rattle.tn_c.proofs.parts.server.HeldServer.set_mask.Goals as goal

pub returns-in-Ok-clause-call : goal.returns-in-Ok-clause-call
returns-in-Ok-clause-call c =
    record {
      step = λ _. c.in-Ok.ensures.step;
      sends = λ _. c.in-Ok.ensures.out;
      accepted = λ _. c.in-Ok.ensures.accepted;
      refused = inl refl;
      err = search rules;
      full = search rules;
      entry = refl;
      seen = refl;
      owned = refl;
    }

pub returns-in-Err-Memory-clause-call : goal.returns-in-Err-Memory-clause-call
returns-in-Err-Memory-clause-call c =
    record {
      step = search rules;
      sends = search rules;
      accepted = search rules;
      refused = search rules;
      err = search rules;
      full = λ _. c.in-Err-Memory.ensures.full (ap Err c.in-Err-Memory.field-0-is);
      entry = search rules;
      seen = search rules;
      owned = search rules;
    }
