use Rattle.std.proofs.Common.{refl}
use Rattle.tn_c.proofs.of_parts.Sifting.{sieves_run}
use Rattle.tn_c.proofs.parts.owned.SieveSink.run.Goals as goal

pub returns-in-Ok-clause-ok : goal.returns-in-Ok-clause-ok
returns-in-Ok-clause-ok c = sieves_run c.args.self.now _ c.args.bytes.now c.requires.plain refl refl c.in-Ok.ensures.items
