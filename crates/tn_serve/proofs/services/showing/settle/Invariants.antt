use Rattle.std.proofs.Common.{◌≡◌, ◌+◌, ◌≤◌, ◌++◌, length, take, vec_capacity, vec_len}
use Rattle.tn_serve.specs.services.NewLines.{ends_by_return, settled, waiting}
use Rattle.tn_serve.proofs.services.showing.settle.Given as goal

-- the text of the bytes so far stands at the end, and there is room for the others
abbrev pub invariant-loop-byte : goal.invariant-loop-byte
invariant-loop-byte l =
    record {
      items : l.text.items ≡ l.initial.text.items ++ settled (waiting l.fn.waited ++ take l.byte-index l.bytes);
      waits : l.waits ≡ ends_by_return (waiting l.fn.waited ++ take l.byte-index l.bytes);
      room : vec_len l.text + length (waiting l.waits) ≤ vec_len l.initial.text + length (waiting l.fn.waited) + l.byte-index;
      capacity : vec_capacity l.text ≡ vec_capacity l.initial.text;
    }
