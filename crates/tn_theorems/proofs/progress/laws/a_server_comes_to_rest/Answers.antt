use Rattle.tn_theorems.proofs.progress.laws.a_server_comes_to_rest.Goals as goal
use Rattle.tn_theorems.proofs.of_progress.Measure.{comes_to_rest}

pub returns : goal.returns
returns c = comes_to_rest
