use Rattle.std.proofs.Common.{rules, inl, inr, refl, ap, ◌∙◌}
use Rattle.tn_discipline.specs.Characters.{char_fault}
use Rattle.tn_discipline.specs.declared.characters.CharFault.TheVariants as char
use Rattle.tn_pty.specs.declared.pty.PtyFault.TheVariants as pty
use Rattle.tn_server.specs.Calls.{char_fault_at}
use Rattle.tn_server.specs.declared.faults.ServerFault.TheVariants as fault
use Rattle.tn_c.proofs.of_parts.Refusing.{server_told, never_pty}
use Rattle.tn_c.proofs.parts.server.HeldServer.set_char.Goals as goal

pub returns-in-Ok-clause-call : goal.returns-in-Ok-clause-call
returns-in-Ok-clause-call c =
    record {
      step = λ _. c.in-Ok.ensures.step;
      sends = λ _. c.in-Ok.ensures.out;
      accepted = λ _. c.in-Ok.ensures.accepted;
      refused = inl refl;
      err = search rules;
      full = search rules;
      entry = refl;
      seen = refl;
      owned = refl;
    }

pub returns-in-Err-Memory-clause-call : goal.returns-in-Err-Memory-clause-call
returns-in-Err-Memory-clause-call c =
    record {
      step = search rules;
      sends = search rules;
      accepted = search rules;
      refused = inr (server_told (char_fault_at c.args.self.now.end c.args.func c.args.value) c.in-Err-Memory.field-0 fault.Memory c.in-Err-Memory.field-0-is
          c.in-Err-Memory.ensures.fault);
      err = search rules;
      full = search rules;
      entry = search rules;
      seen = search rules;
      owned = search rules;
    }

pub returns-in-Err-Failed-clause-call : goal.returns-in-Err-Failed-clause-call
returns-in-Err-Failed-clause-call c =
    record {
      step = search rules;
      sends = search rules;
      accepted = search rules;
      refused = inr (server_told (char_fault_at c.args.self.now.end c.args.func c.args.value) c.in-Err-Failed.field-0 fault.Failed c.in-Err-Failed.field-0-is
          c.in-Err-Failed.ensures.fault);
      err = search rules;
      full = search rules;
      entry = search rules;
      seen = search rules;
      owned = search rules;
    }

pub returns-in-Err-NotOn-clause-call : goal.returns-in-Err-NotOn-clause-call
returns-in-Err-NotOn-clause-call c =
    record {
      step = search rules;
      sends = search rules;
      accepted = search rules;
      refused = inr (server_told (char_fault_at c.args.self.now.end c.args.func c.args.value) c.in-Err-NotOn.field-0 fault.NotOn c.in-Err-NotOn.field-0-is
          c.in-Err-NotOn.ensures.fault);
      err = search rules;
      full = search rules;
      entry = search rules;
      seen = search rules;
      owned = search rules;
    }

pub returns-in-Err-Pty-TooFarAhead-clause-call : goal.returns-in-Err-Pty-TooFarAhead-clause-call
returns-in-Err-Pty-TooFarAhead-clause-call c =
    record {
      step = search rules;
      sends = search rules;
      accepted = search rules;
      refused = inr (server_told (char_fault_at c.args.self.now.end c.args.func c.args.value) c.in-Err-Pty-TooFarAhead.field-0 (fault.Pty pty.TooFarAhead)
          (c.in-Err-Pty-TooFarAhead.field-0-is ∙ ap fault.Pty c.in-Err-Pty-TooFarAhead.field-0-0-is) c.in-Err-Pty-TooFarAhead.ensures.fault);
      err = search rules;
      full = search rules;
      entry = search rules;
      seen = search rules;
      owned = search rules;
    }

pub returns-in-Err-Pty-Memory-clause-call : goal.returns-in-Err-Pty-Memory-clause-call
returns-in-Err-Pty-Memory-clause-call c =
    record {
      step = search rules;
      sends = search rules;
      accepted = search rules;
      refused = inr (server_told (char_fault_at c.args.self.now.end c.args.func c.args.value) c.in-Err-Pty-Memory.field-0 (fault.Pty pty.Memory)
          (c.in-Err-Pty-Memory.field-0-is ∙ ap fault.Pty c.in-Err-Pty-Memory.field-0-0-is) c.in-Err-Pty-Memory.ensures.fault);
      err = search rules;
      full = λ _. absurd
          (never_pty c.args.self.now.end.failed (char_fault c.args.self.now.end.table c.args.func c.args.value) c.in-Err-Pty-Memory.field-0
          c.in-Err-Pty-Memory.field-0-0 c.in-Err-Pty-Memory.field-0-is c.in-Err-Pty-Memory.ensures.fault);
      entry = search rules;
      seen = search rules;
      owned = search rules;
    }

pub returns-in-Err-Pty-Closed-clause-call : goal.returns-in-Err-Pty-Closed-clause-call
returns-in-Err-Pty-Closed-clause-call c =
    record {
      step = search rules;
      sends = search rules;
      accepted = search rules;
      refused = inr (server_told (char_fault_at c.args.self.now.end c.args.func c.args.value) c.in-Err-Pty-Closed.field-0 (fault.Pty pty.Closed)
          (c.in-Err-Pty-Closed.field-0-is ∙ ap fault.Pty c.in-Err-Pty-Closed.field-0-0-is) c.in-Err-Pty-Closed.ensures.fault);
      err = search rules;
      full = search rules;
      entry = search rules;
      seen = search rules;
      owned = search rules;
    }

pub returns-in-Err-Char-NotSettable-clause-call : goal.returns-in-Err-Char-NotSettable-clause-call
returns-in-Err-Char-NotSettable-clause-call c =
    record {
      step = search rules;
      sends = search rules;
      accepted = search rules;
      refused = inr (server_told (char_fault_at c.args.self.now.end c.args.func c.args.value) c.in-Err-Char-NotSettable.field-0 (fault.Char char.NotSettable)
          (c.in-Err-Char-NotSettable.field-0-is ∙ ap fault.Char c.in-Err-Char-NotSettable.field-0-0-is) c.in-Err-Char-NotSettable.ensures.fault);
      err = search rules;
      full = search rules;
      entry = search rules;
      seen = search rules;
      owned = search rules;
    }

pub returns-in-Err-Char-Reserved-clause-call : goal.returns-in-Err-Char-Reserved-clause-call
returns-in-Err-Char-Reserved-clause-call c =
    record {
      step = search rules;
      sends = search rules;
      accepted = search rules;
      refused = inr (server_told (char_fault_at c.args.self.now.end c.args.func c.args.value) c.in-Err-Char-Reserved.field-0 (fault.Char char.Reserved)
          (c.in-Err-Char-Reserved.field-0-is ∙ ap fault.Char c.in-Err-Char-Reserved.field-0-0-is) c.in-Err-Char-Reserved.ensures.fault);
      err = search rules;
      full = search rules;
      entry = search rules;
      seen = search rules;
      owned = search rules;
    }

pub returns-in-Err-Char-Taken-clause-call : goal.returns-in-Err-Char-Taken-clause-call
returns-in-Err-Char-Taken-clause-call c =
    record {
      step = search rules;
      sends = search rules;
      accepted = search rules;
      refused = inr (server_told (char_fault_at c.args.self.now.end c.args.func c.args.value) c.in-Err-Char-Taken.field-0 (fault.Char char.Taken)
          (c.in-Err-Char-Taken.field-0-is ∙ ap fault.Char c.in-Err-Char-Taken.field-0-0-is) c.in-Err-Char-Taken.ensures.fault);
      err = search rules;
      full = search rules;
      entry = search rules;
      seen = search rules;
      owned = search rules;
    }
