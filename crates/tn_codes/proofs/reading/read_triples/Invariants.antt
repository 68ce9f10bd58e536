use Rattle.std.proofs.Common.{◌≡◌, ◌++◌, ◌%◌, length, flat_map}
use Rattle.tn_codes.specs.Payloads.{octets_of}
use Rattle.tn_codes.proofs.reading.read_triples.Given as goal

abbrev pub invariant-loop-rest : goal.invariant-loop-rest
invariant-loop-rest l = record {
  split : l.octets ≡ flat_map octets_of l.triples.items ++ l.rest;
  whole : length l.rest % 3 ≡ 0;
}

abbrev pub decreases-loop-rest : goal.decreases-loop-rest
decreases-loop-rest l = length l.rest
