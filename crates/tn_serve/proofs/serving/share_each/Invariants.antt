use Rattle.std.proofs.Common.{take, vec_items}
use Rattle.tn_net.specs.network.Asked.{GiveEach}
use Rattle.tn_serve.proofs.serving.share_each.Given as goal

-- the listeners so far are shared
abbrev pub invariant-loop-listener : goal.invariant-loop-listener
invariant-loop-listener g l = GiveEach (g.N.Network.shares l.net) (take l.listener-index l.listeners) (vec_items l.ours)
