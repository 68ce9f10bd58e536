use Rattle.std.proofs.Common.{rules, inl, refl}
use Rattle.tn_c.proofs.parts.server.HeldServer.set_echo.Goals as goal

pub returns-in-Ok : goal.returns-in-Ok
returns-in-Ok c =
    record {
      step = λ _. c.in-Ok.ensures.step;
      sends = λ _. c.in-Ok.ensures.out;
      accepted = λ _. c.in-Ok.ensures.accepted;
      refused = inl refl;
      err = search rules;
      full = search rules;
      entry = refl;
      seen = refl;
      owned = refl;
    }
