use Rattle.std.proofs.Common.{◌≡◌, ◌++◌, take, flat_map}
use Rattle.tn_net.specs.printing.Texts.{byte_text}
use Rattle.tn_net.proofs.printing.data.push_bytes.Given as goal

abbrev pub invariant-loop-byte : goal.invariant-loop-byte
invariant-loop-byte l = l.out.items ≡ l.initial.out.items ++ flat_map byte_text (take l.byte-index l.bytes)
