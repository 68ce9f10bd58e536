use Rattle.std.proofs.Common.{vec_items}
use Rattle.tn_net.specs.network.Asked.{AcceptsAll, AcceptsAtOne}
use Rattle.tn_serve.proofs.acceptor.Acceptor.accept_all.Given as goal

abbrev pub invariant-loop-number : goal.invariant-loop-number
invariant-loop-number g l = AcceptsAll (AcceptsAtOne (g.H.Network.accepts l.self.rt) (vec_items l.self.listeners)) l.number
