use Rattle.std.proofs.Common.{◌≡◌, ◌++◌, take}
use Rattle.tn_net.specs.Logs.{logged}
use Rattle.tn_net.proofs.write_log.WriteLog.then_all.Given as goal

abbrev pub invariant-loop-byte : goal.invariant-loop-byte
invariant-loop-byte l = logged l.log ≡ logged l.fn.self ++ take l.byte-index l.bytes
