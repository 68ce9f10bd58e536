use Rattle.tn_serve.proofs.of_services.Talks.{in_order}
use Rattle.tn_serve.proofs.services.laws.lines_go_in_order.Goals as goal

pub returns : goal.returns
returns g c = in_order g.W.Drain.contents g.W.Drain.told
