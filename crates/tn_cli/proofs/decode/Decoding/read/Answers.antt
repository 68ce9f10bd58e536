use Rattle.tn_cli.proofs.Decoding.{printed_piece}
use Rattle.tn_cli.proofs.decode.Decoding.read.Goals as goal

pub returns-in-Ok : goal.returns-in-Ok
returns-in-Ok c = printed_piece _ _ _ _ _ c.in-Ok.ensures.ok c.take_text.ensures.taken c.take_text.ensures.left c.read.ensures
