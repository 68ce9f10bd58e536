-- The symbols of a server end: first in, first out.
use Rattle.std.specs.Prelude.{ℕ, nat_lt, Bool, false, not, ◌&&◌, ◌||◌, Option, Some, List, [], ◌++◌, length}
use Rattle.std.specs.Prelude.{take, drop, if◌then◌else◌}
use Rattle.tn_discipline.specs.{HalfLine.HalfLine, declared.{echo.Symbol.Symbol, termios.Settings.Settings}}
use Rattle.tn_linemode.specs.Modes.{edits}
use Rattle.tn_nvt.specs.declared.items.Item.{Item, TheVariants.{Byte, Newline, Cmd}}
use Rattle.tn_option.specs.{Options.{Options, state_of, is_yes}, declared.q_method.Side.TheVariants.Us}
use Rattle.tn_pty.specs.Terminal.{queue_with, fitting_count, output_symbols}
use Rattle.tn_pty.specs.Typing.{echo_symbols, command_shows}
use Rattle.tn_server.specs.{Events.{got, took, wrote, pulled, History, begun, next}, Terms.{settings, mode}}
use Rattle.tn_server.specs.{Terms.{options, echoes, payload_at}, Lines.{line, taken_count, entries}}
use Rattle.tn_codes.specs.OptionCodes as option_code
use Rattle.tn_codes.specs.declared.payloads.Payload.{Payload, TheVariants.Naws}

-- a byte that was edited before was echoed before
abbrev pub byte_shows : Settings → Bool → Bool → HalfLine → ℕ → List Symbol
byte_shows s edit on half byte = echo_symbols (not edit && on) s byte half

-- the symbols that an item puts on the screen, if they fit
abbrev pub shows : Settings → Bool → Bool → HalfLine → Item → List Symbol
shows s edit on half (Byte byte) = byte_shows s edit on half byte
shows s edit on half Newline = byte_shows s edit on half 10
shows s edit on half (Cmd command) = command_shows command
shows s edit on half _ = []

-- the symbols that wait to be pulled
abbrev pub queue : History → List Symbol
queue (begun opening canon) = []
queue (next h (got item)) =
    queue_with (queue h) (shows (settings h) (edits (mode h)) (echoes (options h)) (line h) item)
queue (next h (wrote bytes)) =
    queue h ++ output_symbols (settings h).flags (take (fitting_count (queue h) bytes) bytes)
queue (next h (pulled n)) = drop n (queue h)
queue (next h _) = queue h

-- RFC 858: GA is due if no entry waits to be read, unless GA is suppressed
abbrev pub sends_ga : Bool → Options → Bool → Bool
sends_ga none o due = none && (not (is_yes (state_of o Us option_code.suppress_go_ahead)) && due)

-- no entry waits
abbrev pub none_waits : History → Bool
none_waits h = not (nat_lt (taken_count h) (length (entries h)))

-- symbols were pulled since the last GA
abbrev pub due : History → Bool
due (begun opening canon) = false
due (next h took) = if sends_ga (none_waits h) (options h) (due h) then false else due h
due (next h (pulled n)) = due h || nat_lt 0 (length (take n (queue h)))
due (next h _) = due h

-- RFC 1073: the window's size, as the client sent it last while NAWS was on; none was sent at first
abbrev pub size_after : ℕ × ℕ → Option Payload → ℕ × ℕ
size_after size (Some (Naws width height)) = (width, height)
size_after size _ = size

-- the window's width and height after a history
abbrev pub size : History → ℕ × ℕ
size (begun opening canon) = (0, 0)
size (next h (got item)) = size_after (size h) (payload_at (options h) item)
size (next h _) = size h
