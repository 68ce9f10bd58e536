-- The request of the arguments, as sessions over connections take it.
use Rattle.std.specs.Prelude.{◌≡◌, ◌||◌, ◌&&◌, not, is_some, ◌/◌, ℕ, Bool, true, IsTrue, false, Option, None}
use Rattle.std.specs.Prelude.{Some, IsSome, unwrap_or, Result, List, [], ◌∷◌, map, codes, eqb, nat_eq, Ok}
use Rattle.std.specs.Prelude.{if◌then◌else◌, Err, string_bytes, vec_items}
use Rattle.std.specs.{List.{list_all, starts_with}, Str.bytes_eq}
use Rattle.tn_net.specs.{network.Asked.{Place, names_path}, Mapping.none_own}
use Rattle.tn_net.specs.declared.returns.ReturnKey.{ReturnKey, TheVariants.{CrNul, CrLf, Lf}}
use Rattle.tn_serve.specs.declared.services.{answerers.Answerers.Answerers, cutting.LineFormat.LineFormat}
use Rattle.tn_serve.specs.declared.{services.dialing.Joiner.Joiner, fault.ServeFault.ServeFault}
use Rattle.tn_serve.specs.declared.settings.SessionOptions.{SessionOptions}
use Rattle.tn_serve.specs.declared.fault.ServeFault.TheVariants.{Network, Memory, Limit as BadLimit}
use Rattle.tn_connect.specs.declared.settings.KeySource.{KeySource, TheVariants.{Reader, Input, Terminal}}
use Rattle.tn_server.specs.declared.openings.Opening.{Opening, TheVariants.{Keys, Lines}}
use Rattle.tn_server.specs.declared.wishes.Editing.{Editing, TheVariants.{Local, Remote}}
use Rattle.tn_session.specs.Facts.{Window}
use Rattle.tn_cli.specs.declared.arguments.settings.Characters.{Characters, TheVariants.{Own, Standard}}
use Rattle.tn_cli.specs.declared.arguments.settings.{ConnectWords.ConnectWords, Escape.Escape, Mode.Mode}
use Rattle.tn_cli.specs.declared.arguments.settings.{ServeWords.ServeWords, Mode.TheVariants.{Auto, Char}}
use Rattle.tn_cli.specs.declared.arguments.settings.ReturnBytes.{ReturnBytes}
use Rattle.tn_cli.specs.declared.arguments.settings.Escape.TheVariants as escape
use Rattle.tn_cli.specs.declared.arguments.settings.ReturnBytes.TheVariants as bytes

-- the side that is to edit, as `--local` asks
abbrev pub editing_as : Bool → Editing
editing_as true = Local
editing_as false = Remote

-- the opening of a server's sessions, as `--line-clients` asks
abbrev pub opening_as : Bool → Opening
opening_as true = Lines
opening_as false = Keys

-- after how many connections a server ends: without end it is the greatest number of 64 bits
abbrev pub count_as : Option ℕ → ℕ
count_as (Some count) = count
count_as None = 18446744073709551615

-- out of memory nothing may have been asked for
abbrev pub UnlessMemory : {A : Type 0} → Result A ServeFault → Type 0 → Type 0
UnlessMemory (Ok done) asked = asked
UnlessMemory (Err Network) asked = asked
UnlessMemory (Err BadLimit) asked = asked
UnlessMemory (Err Memory) asked = Unit {0}

-- whether a host is of loopback, by its text, or a path of this machine
abbrev pub is_loopback : List ℕ → Bool
is_loopback host =
    starts_with eqb host (codes "127.") || bytes_eq host (codes "::1") || bytes_eq host (codes "localhost")
    || names_path host

-- whether only this machine reaches a server, as far as its arguments show: nothing is known of a socket that
-- is handed in
abbrev pub is_local : ServeWords → Bool
is_local asked =
    not (is_some asked.socket.handed)
    && list_all (λ host. is_loopback (string_bytes host)) (vec_items asked.hosts)

-- the places at which a server listens: each of these hosts, or the socket that is handed in
abbrev pub places_at : List (List ℕ) → ℕ → Option ℕ → List Place
places_at hosts port None = map (λ host. record { host = host; port = port; handed = None }) hosts
places_at hosts port (Some descriptor) =
    record { host = []; port = port; handed = Some descriptor } ∷ []

-- the places at which the server that was asked for listens
abbrev pub places_as : ServeWords → List Place
places_as asked =
    places_at (map string_bytes (vec_items asked.hosts)) asked.socket.port asked.socket.handed

-- half of all sessions, and at least one
abbrev pub half_of : ℕ → ℕ
half_of sessions = if nat_eq sessions 1 then 1 else sessions / 2

-- the most sessions of one host if none is given, by whether only this machine reaches the server
abbrev pub usual_per_host : Bool → ℕ → ℕ
usual_per_host true sessions = 64
usual_per_host false sessions = half_of sessions

-- the most sessions of one host, as `--per-host` gives it
abbrev pub per_host_as : Option ℕ → Bool → ℕ → ℕ
per_host_as (Some count) loopback sessions = if nat_eq count 0 then 64 else count
per_host_as None loopback sessions = usual_per_host loopback sessions

-- after how many seconds a session is idle: if none are named, never at a local server, else after an hour
abbrev pub idle_as : Option ℕ → Bool → ℕ
idle_as (Some seconds) loopback = seconds
idle_as None true = 0
idle_as None false = 3600

-- the options that the sessions of the server that was asked for share
abbrev pub options_as : ServeWords → SessionOptions
options_as asked =
    record {
      line_limit = asked.line_limit;
      opening = opening_as asked.line_clients;
      editing = editing_as asked.local;
      idle = idle_as asked.idle (is_local asked);
      longest = asked.longest;
    }

-- the jobs are still to be made, and the one in the background ticks so often
pub record AnswersAsAsked (count : ℕ) (jobs : Answerers) : Type 0 where
  pub first : IsTrue jobs.first
  pub ticks : jobs.ticks ≡ count

-- the form in which lines go to the service
abbrev pub lines_as : ServeWords → LineFormat
lines_as asked =
    record {
      line_end = asked.line_end;
      limit = asked.line_limit;
      ends_cut = asked.ends_cut;
      sends_signals = asked.sends_signals;
      speaks_telnet = asked.to_telnet;
    }

-- the jobs are still to be joined, over this network, to the service at this host and port, which is dialled
-- for this number of seconds; lines go there so
pub record JoinsAsAsked {H N : Type 0} (network : H) (name : List ℕ) (number seconds : ℕ) (so : LineFormat)
    (jobs : Joiner H N)
    : Type 0 where
  pub new : IsSome jobs.hook
  pub rt : jobs.rt ≡ network
  pub host : string_bytes jobs.host ≡ name
  pub port : jobs.port ≡ number
  pub patience : jobs.patience ≡ seconds
  pub lines : jobs.lines ≡ so

-- a window of which no size is given has 80 characters and 24 lines
abbrev pub window_as : ConnectWords → Window
window_as asked =
    record {
      width = unwrap_or asked.width 80;
      height = unwrap_or asked.height 24;
      limit = asked.line_limit;
    }

-- the escape character of a terminal, if it has one
abbrev pub escape_as : Escape → Option ℕ
escape_as (escape.Key key) = Some key
escape_as escape.None = None

-- the bytes that RETURN sends
abbrev pub return_as : ReturnBytes → ReturnKey
return_as bytes.CrNul = CrNul
return_as bytes.CrLf = CrLf
return_as bytes.Lf = Lf

-- the most bytes of a line that is edited while LINEMODE is off, if any is
abbrev pub line_mode_as : Mode → ℕ → Option ℕ
line_mode_as Auto limit = Some limit
line_mode_as Char limit = None

-- the source of the keys: with the standard characters a terminal has none of its own
abbrev pub origin_as : Characters → KeySource → KeySource
origin_as Standard (Terminal own) = Terminal none_own
origin_as Standard Reader = Reader
origin_as Standard Input = Input
origin_as Own origin = origin
