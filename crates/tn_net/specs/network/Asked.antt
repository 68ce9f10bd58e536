-- The requests to a network, by several calls of it.
use Rattle.std.specs.Prelude.{◌≡◌, ◌⊎◌, ℕ, zero, suc, Bool, true, false, eqb, codes, List, [], ◌∷◌, Contains}
use Rattle.std.specs.{Prelude.{MatchResult, Option, Result, Ok, Err, IfOk}, List.{filter, starts_with}}
use Rattle.std.specs.{IoError.error_kind, Net.ToAddrs.{HostAddrs, host_addrs}, declared.io.Error.Error}
use Rattle.std.specs.declared.{io.ErrorKind.TheVariants.{NotFound, OutOfMemory}, net.tcp.TcpStream.TcpStream}
use Rattle.std.specs.declared.net.{socket_addr.SocketAddr.SocketAddr, tcp.TcpListener.TcpListener}
use Rattle.tn_net.specs.declared.network.peers.Peer.{Peer}

-- a connection to each of these addresses was asked for, in order, and there was none; of the first error,
-- which was there before, and of theirs this is the last
abbrev pub RefuseAll : (SocketAddr → Result TcpStream Error → Type 0) → List SocketAddr → Error → Error
    → Type 0
RefuseAll dials [] first last = last ≡ first
RefuseAll dials (address ∷ addresses) first last =
    (error : Error) × dials address (Err error) × RefuseAll dials addresses error last

-- each of these addresses was asked in vain, and this is the last error; if there are none, that nothing was
-- found
abbrev pub AreRefused : (SocketAddr → Result TcpStream Error → Type 0) → List SocketAddr → Error → Type 0
AreRefused dials addresses last =
    (first : Error) × (error_kind first ≡ NotFound) × RefuseAll dials addresses first last

-- The addresses of a host were asked for; if there is a connection, one of those that suit was asked for it,
-- and if there is none, each of those that suit was, or they were not found, and this is why.
abbrev pub ReachesBy : (SocketAddr → Bool) → (Result HostAddrs Error → Type 0)
    → (SocketAddr → Result TcpStream Error → Type 0) → Result TcpStream Error → Type 0
ReachesBy suits finds dials result =
    (found : Result HostAddrs Error) × finds found
    × MatchResult result (λ stream. (addresses : HostAddrs) × (found ≡ Ok addresses) × (address : SocketAddr)
    × Contains (host_addrs addresses) address × (suits address ≡ true) × dials address (Ok stream))
    (λ error. MatchResult found (λ addresses. AreRefused dials (filter suits (host_addrs addresses)) error)
    (λ unfound. error ≡ unfound))

-- The addresses of a host were asked for; if there is a connection, one of them was asked for it, and if there
-- is none, each of them was, or they were not found, and this is why.
abbrev pub Reaches : (Result HostAddrs Error → Type 0) → (SocketAddr → Result TcpStream Error → Type 0)
    → Result TcpStream Error → Type 0
Reaches finds dials result =
    (found : Result HostAddrs Error) × finds found
    × MatchResult result (λ stream. (addresses : HostAddrs) × (found ≡ Ok addresses) × (address : SocketAddr)
    × Contains (host_addrs addresses) address × dials address (Ok stream))
    (λ error. MatchResult found (λ addresses. AreRefused dials (host_addrs addresses) error)
    (λ unfound. error ≡ unfound))

-- whether a host names a socket of the Unix domain, by `unix:` and a path
abbrev pub names_path : List ℕ → Bool
names_path host = starts_with eqb host (codes "unix:")

-- A service was asked for a connection: the socket of its name, or the addresses of its host.
abbrev pub ReachesService : Bool → (Result TcpStream Error → Type 0) → (Result HostAddrs Error → Type 0)
    → (SocketAddr → Result TcpStream Error → Type 0) → Result TcpStream Error → Type 0
ReachesService true joins finds dials result = joins result
ReachesService false joins finds dials result = Reaches finds dials result

-- the place at which a listener is asked for: this host and this port, or the socket that is handed in at
-- this descriptor
pub record Place : Type 0 where
  pub host : List ℕ
  pub port : ℕ
  pub handed : Option ℕ

-- each of these gave one of these listeners
abbrev pub GiveEach : {A : Type 0} → (A → Result TcpListener Error → Type 0) → List A → List TcpListener
    → Type 0
GiveEach gives [] [] = Unit {0}
GiveEach gives [] (listener ∷ listeners) = ⊥
GiveEach gives (x ∷ xs) [] = ⊥
GiveEach gives (x ∷ xs) (listener ∷ listeners) = gives x (Ok listener) × GiveEach gives xs listeners

-- each connection of a number below this one was accepted
abbrev pub AcceptsAll : (ℕ → Result (TcpStream × Peer) Error → Type 0) → ℕ → Type 0
AcceptsAll accepts zero = Unit {0}
AcceptsAll accepts (suc count) =
    AcceptsAll accepts count × ((came : TcpStream × Peer) × accepts count (Ok came))

-- one of these listeners was asked for the connection of this number
abbrev pub AcceptsAtOne : (TcpListener → ℕ → Result (TcpStream × Peer) Error → Type 0) → List TcpListener → ℕ
    → Result (TcpStream × Peer) Error → Type 0
AcceptsAtOne accepts listeners number result =
    (listener : TcpListener) × Contains listeners listener × accepts listener number result

-- this number of connections was accepted of these listeners, which are shared
abbrev pub Accepts : (TcpListener → Result TcpListener Error → Type 0)
    → (TcpListener → ℕ → Result (TcpStream × Peer) Error → Type 0) → List TcpListener → ℕ → Type 0
Accepts shares accepts listeners count =
    (ours : List TcpListener) × GiveEach shares listeners ours × AcceptsAll (AcceptsAtOne accepts ours) count

-- one of these places was asked for a listener and gave none, for this reason, or memory ran out
abbrev pub AreRefusedAt : (Place → Result TcpListener Error → Type 0) → List Place → Error → Type 0
AreRefusedAt listens places error =
    ((place : Place) × Contains places place × listens place (Err error)) ⊎ (error_kind error ≡ OutOfMemory)

-- these places were asked for listeners: each gave one, or there are not all of them, for this reason
abbrev pub ListensAt : (Place → Result TcpListener Error → Type 0) → List Place
    → Result (List TcpListener) Error → Type 0
ListensAt listens places (Ok listeners) = GiveEach listens places listeners
ListensAt listens places (Err error) = AreRefusedAt listens places error

-- Listeners were asked for. If there are all of them, and all went well, this number of connections of them
-- was accepted; if not, the call failed by that error.
abbrev pub Listens : {A E : Type 0} → (Place → Result TcpListener Error → Type 0)
    → (TcpListener → Result TcpListener Error → Type 0)
    → (TcpListener → ℕ → Result (TcpStream × Peer) Error → Type 0) → List Place → (A → ℕ)
    → (Error → Result A E → Type 0) → Result A E → Type 0
Listens listens shares accepts places count_of fails result =
    (bound : Result (List TcpListener) Error) × ListensAt listens places bound
    × MatchResult bound
    (λ listeners. IfOk result (λ done. Accepts shares accepts listeners (count_of done)))
    (λ error. fails error result)

-- The known facts of one network: the evidence that each of its calls gives.
pub record Asking : Type 1 where
  pub listens : List ℕ → ℕ → Option ℕ → Result TcpListener Error → Type 0
  pub shares : TcpListener → Result TcpListener Error → Type 0
  pub accepts : TcpListener → ℕ → Result (TcpStream × Peer) Error → Type 0
  pub finds : List ℕ → ℕ → Result HostAddrs Error → Type 0
  pub dials : SocketAddr → Result TcpStream Error → Type 0

-- the known facts of a network, by these relations of its calls
abbrev pub asking : (List ℕ → ℕ → Option ℕ → Result TcpListener Error → Type 0)
    → (TcpListener → Result TcpListener Error → Type 0)
    → (TcpListener → ℕ → Result (TcpStream × Peer) Error → Type 0)
    → (List ℕ → ℕ → Result HostAddrs Error → Type 0) → (SocketAddr → Result TcpStream Error → Type 0) → Asking
asking listens shares accepts finds dials =
    record { listens = listens; shares = shares; accepts = accepts; finds = finds; dials = dials }

-- the request to a network at a place
abbrev pub at_place : (List ℕ → ℕ → Option ℕ → Result TcpListener Error → Type 0) → Place
    → Result TcpListener Error → Type 0
at_place listens place = listens place.host place.port place.handed
