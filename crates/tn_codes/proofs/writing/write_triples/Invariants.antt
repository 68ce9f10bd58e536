use Rattle.std.proofs.Common.{◌≡◌, ◌+◌, ◌-◌, ◌*◌, ◌≤◌, ◌++◌, length, take, flat_map, vec_len, vec_capacity}
use Rattle.tn_codes.specs.Payloads.{octets_of}
use Rattle.tn_codes.proofs.writing.write_triples.Given as goal

abbrev pub invariant-loop-triple : goal.invariant-loop-triple
invariant-loop-triple l = record {
  items : l.out.items ≡ l.initial.out.items ++ flat_map octets_of (take l.triple-index l.triples);
  room : vec_len l.out + 3 * (length l.triples - l.triple-index) ≤ vec_capacity l.out;
}
