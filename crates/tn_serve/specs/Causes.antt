-- Why a server could not listen.
use Rattle.std.specs.{Prelude.{Result, Ok, Err}, declared.io.Error.Error}
use Rattle.tn_net.specs.network.Asked.{Place}
use Rattle.tn_serve.specs.{Faults.IsToldAs, declared.{fault.ServeFault.ServeFault, listening.At.At}}

-- the call failed with the fault as which this error is reported
abbrev pub FailsBy : {A : Type 0} → Error → Result A ServeFault → Type 0
FailsBy error (Ok done) = ⊥
FailsBy error (Err fault) = IsToldAs error fault

-- the place at which a listener is asked for
abbrev pub place_at : At → Place
place_at at = record { host = at.host.now; port = at.port; handed = at.handed }
