use Rattle.std.proofs.Common.{◌≡◌, take}
use Rattle.tn_lines.specs.{Edges.shown_from, Said.ends_in_return}
use Rattle.tn_lines.proofs.left_edge.LeftEdge.take.Given as goal

-- the bytes that are shown of the bytes so far
abbrev pub invariant-loop-byte : goal.invariant-loop-byte
invariant-loop-byte l =
    record {
      at_terminal : l.self.at_terminal ≡ l.initial.self.at_terminal;
      after : l.self.after_return ≡ ends_in_return l.initial.self.after_return (take l.byte-index l.bytes);
      shows : l.shown.items ≡ shown_from l.initial.self.at_terminal l.initial.self.after_return (take l.byte-index l.bytes);
    }
