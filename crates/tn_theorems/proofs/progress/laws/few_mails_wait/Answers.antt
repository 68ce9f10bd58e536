use Rattle.tn_theorems.proofs.progress.laws.few_mails_wait.Goals as goal
use Rattle.tn_theorems.proofs.of_progress.Progress.{few_mails_wait}

pub returns : goal.returns
returns c = few_mails_wait
