use Rattle.std.proofs.Common.{rules, inl, refl}
use Rattle.tn_c.proofs.parts.server.feed_end.Goals as goal

pub returns-in-Ok : goal.returns-in-Ok
returns-in-Ok c =
    record {
      ok = λ _. c.in-Ok.ensures.ok;
      accepted = λ _. c.in-Ok.ensures.accepted;
      failed = search rules;
      failed_stays = search rules;
      halts = search rules;
      err = search rules;
      codes = inl refl;
      shut = search rules;
    }
