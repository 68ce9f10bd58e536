use Rattle.tn_cli.proofs.Decoding.{printed_none, printing_is}
use Rattle.tn_cli.proofs.decode.Decoding.new.Goals as goal

pub returns : goal.returns
returns c = printed_none _ c.new.ensures (printing_is _ c.new-2.ensures.prefix c.new-2.ensures.text c.new-2.ensures.held) c.new-3.ensures
