-- The port of a service.
use Rattle.std.proofs.Common.{ℕ}
use Rattle.tn_program.specs.Ports.{IsPort, IsService}
use Rattle.tn_cli.specs.declared.arguments.settings.Port.{Port, TheVariants.{Number, Service}}

-- which one it is, is not stated
pub any_port : (asked : Port) (port : ℕ) → IsService asked → IsPort asked port
any_port (Number number) port is = absurd is
any_port (Service name) port is = tt
