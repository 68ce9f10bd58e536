use Rattle.std.proofs.Common.{◌≤◌, ◌-◌, length, take, map}
use Rattle.tn_nvt.specs.declared.items.Item.TheVariants.{Byte}
use Rattle.tn_net.specs.printing.Printing.{Takes}
use Rattle.tn_net.proofs.printing.printer.LinesSink.run.Given as goal

-- the bytes so far were taken
abbrev pub invariant-loop-taken : goal.invariant-loop-taken
invariant-loop-taken l = record { within : l.taken ≤ length l.bytes; takes : Takes l.initial.self (map Byte (take l.taken l.bytes)) l.self }

abbrev pub decreases-loop-taken : goal.decreases-loop-taken
decreases-loop-taken l = length l.bytes - l.taken
