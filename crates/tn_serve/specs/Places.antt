-- The most sessions at once, of all and of one host.
use Rattle.std.specs.Prelude.{◌≡◌, ◌≤◌, ◌+◌, ◌⊎◌, ℕ, Bool, false, Option, None, Some, List, [], ◌∷◌, ◌++◌}
use Rattle.std.specs.{Prelude.{count_by, length, if◌then◌else◌, get_or}, Net.Socket.socket_ip}
use Rattle.std.specs.{Net.Addr.ipv6_segments, declared.net.ip_addr.IpAddr.{IpAddr, TheVariants.{V4, V6}}}
use Rattle.std.specs.declared.net.{ipv6_addr.Ipv6Addr.Ipv6Addr, tcp.TcpStream.TcpStream}
use Rattle.std.specs.contracts.net.ip_addr.IpAddrPartialEq.TheImpl as comparing
use Rattle.tn_net.specs.declared.network.peers.Peer.{Peer, TheVariants.{Address, Unix}}
use Rattle.tn_serve.specs.{declared.caller.Caller.Caller, Turns.{live_of, with_one}}
use Rattle.tn_session.specs.roster.Held.{Held, held_count, is_held}

-- the first 64 bits of an address, and zeros after them
abbrev pub subnet_of : Ipv6Addr → Ipv6Addr
subnet_of a = let parts = ipv6_segments a in
    record {
      segments = get_or parts 0 0 ∷ get_or parts 1 0 ∷ get_or parts 2 0 ∷ get_or parts 3 0
          ∷ 0 ∷ 0 ∷ 0 ∷ 0 ∷ [];
    }

-- the address as which a host is counted: that of IPv4, or the first 64 bits of IPv6, in which each host
-- chooses the others (RFC 4291, 2.5.1)
abbrev pub host_of : IpAddr → IpAddr
host_of (V4 a) = V4 a
host_of (V6 a) = V6 (subnet_of a)

-- the hosts are the same, as `==` compares their addresses
abbrev pub is_same : IpAddr → IpAddr → Bool
is_same = comparing.ghosts.eq

-- the address as which a peer is counted, if it is; one over a socket of the Unix domain is not, since such
-- peers have no bound of their own
abbrev pub counted_as : Peer → Option IpAddr
counted_as (Address address) = Some (host_of (socket_ip address))
counted_as Unix = None

-- whether both are counted as one host
abbrev pub is_one_host : Option IpAddr → Option IpAddr → Bool
is_one_host (Some one) (Some other) = is_same one other
is_one_host (Some one) None = false
is_one_host None other = false

-- the number of these sessions that are counted as from this host
abbrev pub count_at : {S : Type 0} → (S → Peer) → Option IpAddr → List S → ℕ
count_at peer_of host started = count_by (λ s. is_one_host (counted_as (peer_of s)) host) started

-- the number of these sessions that are counted as from the host of this peer
abbrev pub count_from : {S : Type 0} → (S → Peer) → Peer → List S → ℕ
count_from peer_of peer started = count_at peer_of (counted_as peer) started

-- there are as many as there may be: of all, or of those from one host
abbrev pub HasNoPlace : Held → ℕ → ℕ → Type 0
HasNoPlace roster per_host from_host = (held_count roster ≡ roster.limit) ⊎ (per_host ≤ from_host)

-- as many sessions run as there may be: of all, or of those from one host
abbrev pub RunsAll : ℕ → ℕ → ℕ → ℕ → Type 0
RunsAll count sessions per_host from_host = (count ≡ sessions) ⊎ (per_host ≤ from_host)

-- 1 if this number is held
abbrev pub held_of : Held → ℕ → ℕ
held_of roster number = if is_held roster number then 1 else 0

-- each number is held as often as it is live, and this number of them is held
abbrev pub HoldsSo : Held → (ℕ → ℕ) → ℕ → Type 0
HoldsSo roster live count = ((number : ℕ) → held_of roster number ≡ live number) × (held_count roster ≡ count)

-- the numbers that are held are those of these sessions, each of one
abbrev pub AreHeld : {S : Type 0} → Held → List S → (S → ℕ) → Type 0
AreHeld roster started number_of = HoldsSo roster (live_of started number_of) (length started)

-- `AreHeld`, and this number is held for a session that is to run
abbrev pub AreHeldBeside : {S : Type 0} → ℕ → Held → List S → (S → ℕ) → Type 0
AreHeldBeside number roster started number_of =
    HoldsSo roster (with_one number (live_of started number_of)) (length started + 1)

-- the sessions that ran run still, or with one more, over this connection, from this peer and with this
-- serial number
abbrev pub RunsOver : {S : Type 0} → (S → TcpStream) → (S → Caller) → TcpStream → Peer → ℕ → List S →
    List S → Type 0
RunsOver {S} stream_of caller_of stream peer serial old new = (new ≡ old) ⊎ ((s : S) × (new ≡ old ++ s ∷ [])
    × (stream_of s ≡ stream) × ((caller_of s).peer ≡ peer) × ((caller_of s).serial ≡ serial))
