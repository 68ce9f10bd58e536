use Rattle.tn_theorems.proofs.of_sessions.Looping.{loop_reads}
use Rattle.tn_theorems.proofs.sessions.laws.one_loop_reads_what_is_typed.Goals as goal

pub returns : goal.returns
returns c = loop_reads
