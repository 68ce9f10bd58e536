use Rattle.std.proofs.Common.{◌≡◌, ◌≤◌, ◌++◌, take, vec_capacity}
use Rattle.std.specs.List.{flat_map}
use Rattle.tn_nvt.specs.{Spelling.spelling, declared.items.Item.TheVariants.Byte}
use Rattle.tn_client.proofs.sending.put_each.Given as goal

abbrev pub invariant-loop-byte : goal.invariant-loop-byte
invariant-loop-byte l = record {
  items : l.out.items ≡ l.fn.out.items ++ flat_map (λ byte. spelling (Byte byte)) (take l.byte-index l.bytes);
  capacity : vec_capacity l.fn.out ≤ vec_capacity l.out;
}
