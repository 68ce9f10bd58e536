use Rattle.std.proofs.Common.{◌≡◌, ◌++◌, List}
use Rattle.std.specs.{Net.ToAddrs.host_addrs, declared.net.socket_addr.SocketAddr.SocketAddr, List.filter}
use Rattle.tn_net.specs.network.{Asked.RefuseAll, Dialing.suits}
use Rattle.tn_net.proofs.network.reaching.reach_by.Given as goal

-- the addresses that were passed, of which those that suit refused, the last with this error, and then those
-- that are left, are those that were found
abbrev pub invariant-loop-address : goal.invariant-loop-address
invariant-loop-address g l =
    (goal.iterator-loop-address g).can_next l.address-iterator ×
    (goal.iterator-loop-address g).is_finite l.address-iterator ×
    ((tried : List SocketAddr) × (host_addrs l.initial.address-iterator ≡ tried ++ host_addrs l.address-iterator)
    × RefuseAll (g.N.Network.dials l.net) (filter (suits l.dialing) tried) l.initial.last l.last)
