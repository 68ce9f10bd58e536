-- The known facts of the machine on which the program runs.
use Rattle.std.specs.{Prelude.{ℕ, List, Option, Result}, Net.ToAddrs.HostAddrs, declared.io.Error.Error}
use Rattle.std.specs.declared.net.{socket_addr.SocketAddr.SocketAddr, tcp.TcpListener.TcpListener}
use Rattle.std.specs.declared.net.tcp.TcpStream.{TcpStream}
use Rattle.tn_net.specs.{network.Asked.{Asking, asking}, declared.network.peers.Peer.Peer}
use Rattle.tn_serve.specs.declared.served.Served.{Served}
use Rattle.tn_cli.specs.declared.arguments.settings.ServeWords.{ServeWords}

-- The known facts of one machine: what each call of its network gives evidence of, at which paths a file was
-- seen, and what its servers may count.
pub record Machine : Type 1 where
  pub network : Asking
  pub sees : List ℕ → Type 0
  -- what a server may count that was asked for by these arguments
  pub serves : ServeWords → Served → Type 0

-- the known facts of a machine, by these relations of its calls
abbrev pub machine_of : (List ℕ → ℕ → Option ℕ → Result TcpListener Error → Type 0)
    → (TcpListener → Result TcpListener Error → Type 0)
    → (TcpListener → ℕ → Result (TcpStream × Peer) Error → Type 0)
    → (List ℕ → ℕ → Result HostAddrs Error → Type 0) → (SocketAddr → Result TcpStream Error → Type 0)
    → (List ℕ → Type 0) → (ServeWords → Served → Type 0) → Machine
machine_of listens shares accepts finds dials sees serves =
    record { network = asking listens shares accepts finds dials; sees = sees; serves = serves }
