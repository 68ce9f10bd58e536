use Rattle.tn_theorems.proofs.progress.laws.keys_never_wait_to_be_sent.Goals as goal
use Rattle.tn_theorems.proofs.of_progress.ClientQueue.{never_waits_to_send}

pub returns : goal.returns
returns c = never_waits_to_send
