use Rattle.std.proofs.Common.{◌≡◌, ◌++◌, take}
use Rattle.tn_lines.specs.Logs.{bytes_in}
use Rattle.tn_lines.proofs.read_log.ReadLog.then_all.Given as goal

abbrev pub invariant-loop-byte : goal.invariant-loop-byte
invariant-loop-byte l = bytes_in l.log ≡ bytes_in l.fn.self ++ take l.byte-index l.bytes
