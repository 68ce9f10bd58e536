use Rattle.tn_theorems.proofs.progress.laws.a_server_never_gets_stuck.Goals as goal
use Rattle.tn_theorems.proofs.of_progress.Progress.{never_gets_stuck}

pub returns : goal.returns
returns c = never_gets_stuck
