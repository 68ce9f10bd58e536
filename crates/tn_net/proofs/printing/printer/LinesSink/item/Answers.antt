use Rattle.std.proofs.Common.{[], ◌∷◌}
use Rattle.tn_net.proofs.lemmas.printing.Taking.{takes_nothing, some_of_run, none_of_single, single_other}
use Rattle.tn_net.proofs.printing.printer.LinesSink.item.Goals as goal

pub returns-in-Byte-clause-err : goal.returns-in-Byte-clause-err
returns-in-Byte-clause-err c = rw (c.in-Byte.is, c.in-Err.ensures.err) (some_of_run _ _ (c.in-Byte.byte ∷ []) 0 (takes_nothing _) c.in-Err.ensures.fills)

pub returns-clause-err : goal.returns-clause-err
returns-clause-err c = rw c.in-Err-say.ensures.err (none_of_single _ _ (single_other _ c.in_default.not-Byte))

pub returns-in-Ok-clause-ok : goal.returns-in-Ok-clause-ok
returns-in-Ok-clause-ok c = rw c.in-Byte.is c.in-Ok.ensures.ok
