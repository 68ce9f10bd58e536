use Rattle.tn_theorems.proofs.progress.laws.no_put_of_an_entry_waits.Goals as goal
use Rattle.tn_theorems.proofs.of_progress.Progress.{puts_never_wait}

pub returns : goal.returns
returns c = puts_never_wait
