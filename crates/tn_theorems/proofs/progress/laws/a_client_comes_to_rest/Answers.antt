use Rattle.tn_theorems.proofs.progress.laws.a_client_comes_to_rest.Goals as goal
use Rattle.tn_theorems.proofs.of_progress.ClientMeasure.{comes_to_rest}

pub returns : goal.returns
returns c = comes_to_rest
