use Rattle.std.proofs.Common.{◌≡◌, ◌+◌, ◌*◌, ◌∷◌, length, take, flat_map}
use Rattle.tn_codes.specs.Payloads.{slc, octets_of}
use Rattle.tn_linemode.proofs.parameters.list_parameters.Given as goal

abbrev pub invariant-loop-i : goal.invariant-loop-i
invariant-loop-i l = record {
  len : length l.parameters ≡ 511;
  so_far : take (3 * l.i + 1) l.parameters ≡ slc ∷ flat_map octets_of (take l.i l.triples);
}
