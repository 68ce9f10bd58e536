use Rattle.std.proofs.Common.{◌≡◌, ◌+◌, ◌++◌, take, drop, vec_len, vec_capacity}
use Rattle.circular_buffer.specs.Buffer.{buffer}
use Rattle.tn_pty.specs.Runs.{feeds, marked_symbols}
use Rattle.tn_pty.proofs.symbols.push_symbols.Given as goal

-- the symbols of the bytes so far stand in the vector, which keeps its room, and their marks are taken
abbrev pub invariant-loop-byte : goal.invariant-loop-byte
invariant-loop-byte l =
    record {
      items : l.out.items ≡ l.initial.out.items ++ marked_symbols (take l.byte-index l.bytes) l.initial.marks.items;
      marks : l.marks ≡ buffer (drop (feeds (take l.byte-index l.bytes)) l.initial.marks.items) l.initial.marks.capacity;
      len : vec_len l.out ≡ vec_len l.initial.out + l.byte-index;
      capacity : vec_capacity l.out ≡ vec_capacity l.initial.out;
    }
