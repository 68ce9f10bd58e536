use Rattle.std.proofs.Common.{◌≡◌, ◌≤◌, take}
use Rattle.tn_codes.specs.Masks.{trimmed_octets}
use Rattle.tn_codes.proofs.writing.trimmed_len.Given as goal

abbrev pub invariant-loop-i : goal.invariant-loop-i
invariant-loop-i l = record {
  in_range : l.len ≤ l.i;
  so_far : trimmed_octets (take l.i l.octets) ≡ take l.len l.octets;
}
