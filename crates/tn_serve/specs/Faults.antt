-- The faults as which errors are reported.
use Rattle.std.specs.{Prelude.{◌≡◌, ◌≢◌}, IoError.error_kind, declared.io.Error.Error}
use Rattle.std.specs.declared.io.ErrorKind.TheVariants.{OutOfMemory}
use Rattle.tn_serve.specs.declared.fault.ServeFault.{ServeFault, TheVariants.{Network, Limit, Memory}}
use Rattle.tn_session.specs.declared.roster.RosterFault.{RosterFault}
use Rattle.tn_session.specs.declared.roster.RosterFault.TheVariants as roster

-- the fault as which an error of the network is reported: out of memory has its own
abbrev pub IsToldAs : Error → ServeFault → Type 0
IsToldAs error Network = error_kind error ≢ OutOfMemory
IsToldAs error Memory = error_kind error ≡ OutOfMemory
IsToldAs error Limit = ⊥

-- the fault as which a fault of the roster is reported
abbrev pub told_as : RosterFault → ServeFault
told_as roster.BadLimit = Limit
told_as roster.Full = Limit
told_as roster.Memory = Memory
