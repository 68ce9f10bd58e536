use Rattle.tn_net.proofs.incoming.IncomingRead.read.Goals as goal

pub returns-in-Ok-clause-hands_on : goal.returns-in-Ok-clause-hands_on
returns-in-Ok-clause-hands_on g c =
    let read = rw c.in-Ok.is at c.read-got.ensures.bytes in
    rw (c.take.ensures, c.in-Ok.is) read.0
