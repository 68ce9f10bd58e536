use Rattle.tn_world.proofs.Settled.{two_rounds}
use Rattle.tn_world.proofs.laws.two_rounds_to_rest.Goals as goal

pub returns : goal.returns
returns c = λ old mid new past server_goes client_goes r q.
    two_rounds c.exchanges_end.ensures.answers c.exchanges_end.ensures.asks old mid new past server_goes client_goes r q
