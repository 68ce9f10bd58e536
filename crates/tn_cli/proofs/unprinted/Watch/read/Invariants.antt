use Rattle.std.proofs.Common.{take}
use Rattle.tn_cli.specs.Unprinted.{WatchesOn}
use Rattle.tn_cli.proofs.unprinted.Watch.read.Given as goal

abbrev pub invariant-loop-byte : goal.invariant-loop-byte
invariant-loop-byte l = WatchesOn l.initial.self (take l.byte-index l.piece) l.self
