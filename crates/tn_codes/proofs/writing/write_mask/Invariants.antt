use Rattle.std.proofs.Common.{◌≡◌, ◌+◌, ◌-◌, ◌≤◌, ◌++◌, length, take, vec_len, vec_capacity}
use Rattle.tn_codes.proofs.writing.write_mask.Given as goal

abbrev pub invariant-loop-octet : goal.invariant-loop-octet
invariant-loop-octet l = record {
  items : l.out.items ≡ l.initial.out.items ++ take l.octet-index l.octets;
  room : vec_len l.out + (length l.octets - l.octet-index) ≤ vec_capacity l.out;
}
