use Rattle.tn_lines.proofs.Ends.{said_last}
use Rattle.tn_lines.proofs.laws.each_line_has_its_end.Goals as goal

pub returns : goal.returns
returns c = λ line_end bytes. said_last line_end bytes 10
