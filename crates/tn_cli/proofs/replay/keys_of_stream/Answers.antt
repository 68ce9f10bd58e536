use Rattle.tn_cli.proofs.Items.{gathered}
use Rattle.tn_cli.proofs.replay.keys_of_stream.Goals as goal

pub returns-in-Ok : goal.returns-in-Ok
returns-in-Ok c = gathered _ _ c.args.stream.now _ c.feed_to.new.sink c.new-decoder.ensures c.in_ok-with_capacity.ensures.items c.in-Ok.ensures.ok
