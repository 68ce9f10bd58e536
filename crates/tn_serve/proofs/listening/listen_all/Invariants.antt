use Rattle.std.proofs.Common.{map, take, vec_items}
use Rattle.tn_net.specs.network.Asked.{GiveEach, at_place}
use Rattle.tn_serve.specs.Causes.{place_at}
use Rattle.tn_serve.proofs.listening.listen_all.Given as goal

-- those so far gave a listener each
abbrev pub invariant-loop-place : goal.invariant-loop-place
invariant-loop-place g l = GiveEach (at_place (g.N.Network.listens l.net)) (map place_at (take l.place-index l.at)) (vec_items l.listeners)
