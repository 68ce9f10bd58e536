use Rattle.tn_cores.proofs.of_terminal.Requesting.{puts_answer}
use Rattle.tn_cores.proofs.server.laws.puts_answer_requests.Goals as goal

pub returns : goal.returns
returns c = puts_answer
