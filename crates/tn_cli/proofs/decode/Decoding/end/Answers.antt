use Rattle.tn_cli.proofs.Decoding.{printed_last}
use Rattle.tn_cli.proofs.decode.Decoding.end.Goals as goal

pub returns : goal.returns
returns c = printed_last _ _ _ c.in_ok-end_data.ensures.ok c.take_text.ensures.taken
