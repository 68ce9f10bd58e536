use Rattle.tn_cores.proofs.lemmas.server.Hearing.{hears}
use Rattle.tn_cores.proofs.server.laws.pieces_are_heard.Goals as goal

pub returns : goal.returns
returns c = hears
