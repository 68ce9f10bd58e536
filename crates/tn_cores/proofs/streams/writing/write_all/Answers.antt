use Rattle.std.proofs.Common.{refl}
use Rattle.tn_cores.proofs.lemmas.streams.Writing.{writes_so_many}
use Rattle.tn_cores.proofs.streams.writing.write_all.Goals as goal

pub returns-clause-writes : goal.returns-clause-writes
returns-clause-writes g c = writes_so_many _ _ _ c.write_front.result c.args.bytes.now refl c.write_front.ensures.writes
