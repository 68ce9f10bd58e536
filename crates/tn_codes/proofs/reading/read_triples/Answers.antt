use Rattle.std.proofs.Common.{arith, ap, length, length-append, flat_map}
use Rattle.tn_codes.specs.Payloads.{octets_of}
use Rattle.tn_codes.proofs.Grammar.{takes_memory}
use Rattle.tn_codes.proofs.reading.read_triples.Goals as goal

pub returns-then-is_err : goal.returns-then-is_err
returns-then-is_err c =
    takes_memory c.args.octets.now (omega arith) (omega (
      arith,
      ap length c.loop-rest.invariant.split,
      length-append (flat_map octets_of c.loop-rest.triples.items) c.loop-rest.rest.now,
      c.in-len3-up.len_at_least,
    ))
