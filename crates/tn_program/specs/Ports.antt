-- The port that is asked for.
use Rattle.std.specs.Prelude.{◌≡◌, ⊤, ℕ, Result, Err}
use Rattle.tn_connect.specs.declared.fault.ConnectFault.{ConnectFault, TheVariants.Network}
use Rattle.tn_cli.specs.declared.arguments.settings.Port.{Port, TheVariants.{Number, Service}}

-- the port has this number; a file of the machine gives the one that a service has
abbrev pub IsPort : Port → ℕ → Type 0
IsPort (Number number) port = port ≡ number
IsPort (Service name) port = ⊤

-- the port is that of a service
abbrev pub IsService : Port → Type 0
IsService (Number number) = ⊥
IsService (Service name) = ⊤

-- the port is that of a service which this machine does not know, and so no connection was asked for
abbrev pub IsUnknown : {A : Type 0} → Port → Result A ConnectFault → Type 0
IsUnknown port ended = IsService port × (ended ≡ Err Network)
