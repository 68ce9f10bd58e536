use Rattle.tn_cores.proofs.of_terminal.Echoing.{echo_turned}
use Rattle.tn_cores.proofs.server.laws.echo_is_as_asked.Goals as goal

pub returns : goal.returns
returns c = echo_turned
