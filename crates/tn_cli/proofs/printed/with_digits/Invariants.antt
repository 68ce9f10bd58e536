use Rattle.std.proofs.Common.{◌≡◌, ◌+◌, ◌*◌, ◌++◌, take, vec_len, vec_capacity}
use Rattle.hex.specs.Hex.{encode_lower}
use Rattle.tn_cli.proofs.printed.with_digits.Given as goal

-- the digits of the bytes so far stand at the end
abbrev pub invariant-loop-byte : goal.invariant-loop-byte
invariant-loop-byte l =
    record {
      items : l.out.items ≡ l.initial.out.items ++ encode_lower (take l.byte-index l.bytes);
      len : vec_len l.out ≡ vec_len l.initial.out + 2 * l.byte-index;
      capacity : vec_capacity l.out ≡ vec_capacity l.initial.out;
    }
