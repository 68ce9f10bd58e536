use Rattle.tn_cli.proofs.Items.{keys_of_bytes}
use Rattle.tn_cli.proofs.replay.GatheredSink.run.Goals as goal

pub returns-in-Ok-clause-ok : goal.returns-in-Ok-clause-ok
returns-in-Ok-clause-ok c = rw (keys_of_bytes c.args.bytes.now) c.in-Ok.ensures.items
