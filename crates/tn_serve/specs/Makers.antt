-- The makers that a service gives, and what a connection is sent that gets no session.
use Rattle.std.specs.{Prelude.{ℕ, List, ◌++◌, ◌∷◌, [], codes}, declared.net.tcp.TcpStream.TcpStream}

-- the service makes only such makers from this state on
abbrev pub MakesOnly : {V M : Type 0} → (V → M → Type 0) → V → (M → Type 0) → Type 0
MakesOnly {V} {M} makes service made = (jobs : M) → makes service jobs → made jobs

-- from the later state on it makes nothing that it would not have made before
abbrev pub StillMakes : {V M : Type 0} → (V → M → Type 0) → V → V → Type 0
StillMakes makes old new = MakesOnly makes new (makes old)

-- the line for a connection that gets no session
abbrev pub full : List ℕ
full = codes "full" ++ (13 ∷ 10 ∷ [])

-- the network was asked to send it that there is no room
abbrev pub WasTurnedAway : (TcpStream → List ℕ → TcpStream → Type 0) → TcpStream → Type 0
WasTurnedAway dismisses told = (stream : TcpStream) × dismisses stream full told

-- each connection to which that is sent is such
abbrev pub TurnsAway : (TcpStream → List ℕ → TcpStream → Type 0) → (TcpStream → Type 0) → Type 0
TurnsAway dismisses turned = (stream told : TcpStream) → dismisses stream full told → turned told
