use Rattle.std.proofs.lemmas.List.{take_more}
use Rattle.tn_example_line.proofs.entries_of_keys.Goals as goal

pub loop-key-preserved : goal.loop-key-preserved
loop-key-preserved c =
    rw (take_more c.args.keys.now c.loop-key.key-index 0 c.loop-key-test.true)
    (c.in_ok-type_key.ensures _ c.loop-key.invariant)
