-- The faults as which errors are reported.
use Rattle.std.specs.{Prelude.{◌≡◌, ◌≢◌}, IoError.error_kind, declared.io.Error.Error}
use Rattle.std.specs.declared.io.ErrorKind.TheVariants.{OutOfMemory}
use Rattle.tn_connect.specs.declared.fault.ConnectFault.{ConnectFault, TheVariants.{Network, Session, Memory}}

-- the fault as which an error of the network is reported: out of memory has its own
abbrev pub IsToldAs : Error → ConnectFault → Type 0
IsToldAs error Network = error_kind error ≢ OutOfMemory
IsToldAs error Memory = error_kind error ≡ OutOfMemory
IsToldAs error Session = ⊥

-- the fault may be the one as which an error of the network is reported
abbrev pub IsOfNetwork : ConnectFault → Type 0
IsOfNetwork Network = Unit {0}
IsOfNetwork Memory = Unit {0}
IsOfNetwork Session = ⊥
