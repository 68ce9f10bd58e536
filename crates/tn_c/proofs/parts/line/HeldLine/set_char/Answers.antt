use Rattle.std.proofs.Common.{rules, refl, sym, ap}
use Rattle.tn_c.specs.parts.Faults.{char_answer}
use Rattle.tn_c.proofs.parts.line.HeldLine.set_char.Goals as goal

pub returns-in-Ok-clause-call : goal.returns-in-Ok-clause-call
returns-in-Ok-clause-call c =
    record {
      ok = λ _. c.in-Ok.ensures.ok;
      refused = sym (ap char_answer c.in-Ok.ensures.accepted);
      allowed = c.in-Ok.ensures.allowed;
      err = search rules;
      flags = refl;
      keeps = record { line = refl; entry = refl; echo = refl };
    }
