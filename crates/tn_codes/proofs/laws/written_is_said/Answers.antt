use Rattle.tn_codes.proofs.Trimming.{written_is_said}
use Rattle.tn_codes.proofs.laws.written_is_said.Goals as goal

pub returns : goal.returns
returns c = written_is_said
