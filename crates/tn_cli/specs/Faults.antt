-- The status of a process that ended with a fault.
use Rattle.std.specs.Prelude.{ℕ, Result, Ok, Err}
use Rattle.tn_cli.specs.declared.fault.CliFault.{CliFault}
use Rattle.tn_cli.specs.declared.fault.CliFault.TheVariants.{Read, TooLong, Script, World, Write, Memory}

-- the status of a process that ends with this fault
abbrev pub status_of : CliFault → ℕ
status_of TooLong = 2
status_of (Script line) = 2
status_of (World line) = 3
status_of Read = 1
status_of Write = 1
status_of Memory = 1

-- the status after a run
abbrev pub status_after : {A : Type 0} → Result A CliFault → ℕ
status_after (Ok done) = 0
status_after (Err fault) = status_of fault
