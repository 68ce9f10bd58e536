use Rattle.std.proofs.Common.{◌≡◌, take}
use Rattle.tn_lines.specs.Said.{said_from, ends_in_return}
use Rattle.tn_lines.proofs.lines.Lines.take.Given as goal

-- the bytes to be sent for the bytes so far
abbrev pub invariant-loop-byte : goal.invariant-loop-byte
invariant-loop-byte l =
    record {
      line_end : l.self.line_end ≡ l.initial.self.line_end;
      after : l.self.after_return ≡ ends_in_return l.initial.self.after_return (take l.byte-index l.bytes);
      says : l.said.items ≡ said_from l.initial.self.line_end l.initial.self.after_return (take l.byte-index l.bytes);
    }
