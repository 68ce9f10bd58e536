-- The ranges of the numbers in a command line.
use Rattle.std.specs.Prelude.{ℕ, ◌≤◌, ◌≡◌, ◌≢◌, ◌⊎◌, ⊤, Bool, true, None, IfSome, string_bytes, vec_items}
use Rattle.std.specs.List.{list_all}
use Rattle.tn_net.specs.network.Asked.{names_path}
use Rattle.tn_cli.specs.declared.arguments.settings.{ConnectWords.ConnectWords, ServeWords.ServeWords}
use Rattle.tn_cli.specs.declared.arguments.settings.{Socket.Socket, Port.TheVariants.{Number, Service}}
use Rattle.tn_cli.specs.declared.arguments.{settings.Port.Port, connecting.ConnectNumbers.ConnectNumbers}
use Rattle.tn_cli.specs.declared.arguments.{serving.ServeNumbers.ServeNumbers, words.Asked.Asked}
use Rattle.tn_cli.specs.declared.arguments.words.Asked.TheVariants.{Local, Replay, Decode, World, Serve}
use Rattle.tn_cli.specs.declared.arguments.words.Asked.TheVariants.{Connect}

-- the number lies in this range, whose ends belong to it
pub record IsWithin (least most number : ℕ) : Type 0 where
  pub at_least : least ≤ number
  pub at_most : number ≤ most

-- a port from 1 to 65,535; none if the socket is handed in, or if each address is the path of a socket
abbrev pub HasPort : Bool → Socket → Type 0
HasPort on_paths socket = IsWithin 1 65535 socket.port ⊎ (socket.handed ≢ None) ⊎ (on_paths ≡ true)

-- The numbers of `tn serve` that are read together.
pub record AreServeNumbersWithin (numbers : ServeNumbers) : Type 0 where
  pub limit : IsWithin 1 64 numbers.sessions
  pub per_host : IfSome numbers.per_host (IsWithin 0 64)
  pub ticks : IsWithin 0 1000 numbers.ticks
  pub line : IsWithin 255 4095 numbers.line_limit
  pub idle : IfSome numbers.idle (IsWithin 0 86400)
  pub longest : IsWithin 0 86400 numbers.longest
  pub drain : IsWithin 0 86400 numbers.drain
  pub dial : IsWithin 1 86400 numbers.dial

-- The numbers of `tn serve`. A day has 86,400 seconds.
pub record ServesWithin (asked : ServeWords) : Type 0 where
  pub port : HasPort (list_all (λ host. names_path (string_bytes host)) (vec_items asked.hosts)) asked.socket
  pub limit : IsWithin 1 64 asked.sessions
  pub per_host : IfSome asked.per_host (IsWithin 0 64)
  pub count : IfSome asked.count (IsWithin 1 1000000)
  pub ticks : IsWithin 0 1000 asked.ticks
  pub line : IsWithin 255 4095 asked.line_limit
  pub idle : IfSome asked.idle (IsWithin 0 86400)
  pub longest : IsWithin 0 86400 asked.longest
  pub drain : IsWithin 0 86400 asked.drain
  pub dial : IsWithin 1 86400 asked.dial

-- a port from 1 to 65,535; the port of a service is that of the machine's own table
abbrev pub PortWithin : Port → Type 0
PortWithin (Number port) = IsWithin 1 65535 port
PortWithin (Service name) = ⊤

-- The numbers of `tn connect` that are read together.
pub record AreConnectNumbersWithin (numbers : ConnectNumbers) : Type 0 where
  pub line : IsWithin 255 4095 numbers.line_limit
  pub wait : IsWithin 0 86400 numbers.wait
  pub patience : IsWithin 0 86400 numbers.patience
  pub timeout : IsWithin 0 86400 numbers.timeout

-- The numbers of `tn connect`. Its window has sizes of two bytes, by their types.
pub record ConnectsWithin (asked : ConnectWords) : Type 0 where
  pub port : PortWithin asked.port
  pub line : IsWithin 255 4095 asked.line_limit
  pub wait : IsWithin 0 86400 asked.wait
  pub patience : IsWithin 0 86400 asked.patience
  pub timeout : IsWithin 0 86400 asked.dialing.seconds

-- each number of what is asked for lies in its range
abbrev pub IsWithinRanges : Asked → Type 0
IsWithinRanges (Serve asked) = ServesWithin asked
IsWithinRanges (Connect asked) = ConnectsWithin asked
IsWithinRanges Local = ⊤
IsWithinRanges Replay = ⊤
IsWithinRanges Decode = ⊤
IsWithinRanges World = ⊤
