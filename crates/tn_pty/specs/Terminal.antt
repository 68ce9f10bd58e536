-- A terminal, seen from outside: what is typed at its master, and what its slave reads and writes (pty(7)).
use Rattle.std.specs.Prelude.{ℕ, ◌+◌, ◌-◌, min, nat_le, Bool, true, false, ◌&&◌, ◌==◌, Option, Some, None}
use Rattle.std.specs.Prelude.{List, [], ◌∷◌, ◌++◌, length, map, if◌then◌else◌}
use Rattle.tn_discipline.specs.{HalfLine.{HalfLine, empty_line}, declared.termios.Flags.Flags}
use Rattle.tn_discipline.specs.declared.{termios.Settings.Settings, reads.{Sig.Sig, Entry.Entry}}
use Rattle.tn_discipline.specs.declared.echo.Symbol.{Symbol, TheVariants.{Byte, Newline}}
use Rattle.tn_discipline.specs.declared.reads.Entry.TheVariants as entry

-- the entries wait to be read, the first at the left, and the symbols to be pulled
pub record Terminal : Type 0 where
  pub settings : Settings
  pub line : HalfLine
  pub entries : List Entry
  pub queue : List Symbol
  pub width : ℕ
  pub height : ℕ
  pub closed : Bool

-- a terminal at which nothing was typed, a line of which has at most this number of bytes with its closing
-- byte
abbrev pub new_terminal : Settings → ℕ → Terminal
new_terminal settings limit =
    record {
      settings = settings;
      line = empty_line limit;
      entries = [];
      queue = [];
      width = 0;
      height = 0;
      closed = false;
    }

-- a terminal that takes no key and no command any more
abbrev pub shut_terminal : Terminal → Terminal
shut_terminal old = record old { closed = true }

-- the most symbols that wait
abbrev pub queue_symbols : ℕ
queue_symbols = 4096

-- the most entries that wait
abbrev pub max_waiting : ℕ
max_waiting = 1024

-- the queue followed by these symbols if all of them fit, else as it is
abbrev pub queue_with : List Symbol → List Symbol → List Symbol
queue_with queue symbols =
    if nat_le (length queue + length symbols) queue_symbols then queue ++ symbols else queue

-- the queue followed by each of these symbols that fits, one after another
abbrev pub queue_with_each : List Symbol → List Symbol → List Symbol
queue_with_each queue [] = queue
queue_with_each queue (symbol ∷ symbols) = queue_with_each (queue_with queue (symbol ∷ [])) symbols

-- XBD 11.2.3, OPOST and ONLCR: how a byte of output is shown
abbrev pub output_symbol : Flags → ℕ → Symbol
output_symbol flags byte = if byte == 10 && (flags.opost && flags.onlcr) then Newline else Byte byte

-- the symbols that these bytes of output show
abbrev pub output_symbols : Flags → List ℕ → List Symbol
output_symbols flags bytes = map (output_symbol flags) bytes

-- the number of these bytes of output that fit after the queue
abbrev pub fitting_count : List Symbol → List ℕ → ℕ
fitting_count queue bytes = min (length bytes) (queue_symbols - length queue)

-- the first signal among these entries
abbrev pub first_signal : List Entry → Option Sig
first_signal [] = None
first_signal (entry.Signal sig ∷ entries) = Some sig
first_signal (entry.Text bytes ∷ entries) = first_signal entries
first_signal (entry.Eof ∷ entries) = first_signal entries
