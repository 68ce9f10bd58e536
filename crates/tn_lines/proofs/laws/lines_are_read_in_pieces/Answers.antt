use Rattle.std.proofs.Common.{false}
use Rattle.tn_lines.proofs.Reading.{said_from-append}
use Rattle.tn_lines.proofs.laws.lines_are_read_in_pieces.Goals as goal

pub returns : goal.returns
returns c = λ line_end bytes more. said_from-append line_end false bytes more
