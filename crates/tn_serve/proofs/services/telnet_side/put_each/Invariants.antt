use Rattle.std.proofs.Common.{◌≡◌, ◌++◌, take}
use Rattle.tn_serve.specs.services.Telnet.{spelled}
use Rattle.tn_serve.proofs.services.telnet_side.put_each.Given as goal

abbrev pub invariant-loop-byte : goal.invariant-loop-byte
invariant-loop-byte l = l.out.items ≡ l.fn.out.items ++ spelled (take l.byte-index l.bytes)
