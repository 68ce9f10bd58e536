-- The talk that a client has with a service that takes lines.
use Rattle.std.specs.Prelude.{◌≡◌, ◌≢◌, ℕ, Bool, true, false, Option, Some, None, IfSome, List, [], length}
use Rattle.std.specs.declared.net.tcp.TcpStream.{TcpStream}
use Rattle.tn_connect.specs.declared.settings.KeySource.{KeySource, TheVariants.{Reader, Input, Terminal}}
use Rattle.tn_connect.specs.{declared.talks.TalkReport.TalkReport, Warnings.count_in}
use Rattle.tn_net.specs.{Typing.of_bytes, Logs.logged, declared.escaping.Keyboard.Keyboard}
use Rattle.tn_net.specs.declared.returns.ReturnKey.TheVariants.{CrNul}
use Rattle.tn_lines.specs.{Logs.bytes_in, Openings.{negotiates, warnings_if}, Talking.{Talked, streams}}
use Rattle.tn_lines.specs.declared.{line_ends.LineEnd.LineEnd, talk.Over.TheVariants.{Closed, Broken}}

-- the keys come from a terminal
abbrev pub is_terminal : KeySource → Bool
is_terminal (Terminal own) = true
is_terminal Reader = false
is_terminal Input = false

-- the meaning of the bytes of keys: only at a terminal they stand for anything but themselves
abbrev pub plain_keyboard : KeySource → Option ℕ → Keyboard
plain_keyboard (Terminal own) escape =
    record { escape = escape; own = own; editing = own; returns = CrNul; may_change = false }
plain_keyboard Reader escape = of_bytes
plain_keyboard Input escape = of_bytes

-- the lines that are known of the bytes of a reader: all of them, and none at a terminal, which edits them
abbrev pub lines_in : KeySource → Option (List ℕ) → Option (List ℕ)
lines_in (Terminal own) bytes = None
lines_in Reader bytes = bytes
lines_in Input bytes = bytes

-- A talk was held with these lines and this screen, before and after it: all that was read, came and was sent
-- stands in the logs, and the waiting bytes were still to be sent. The user was warned once if the bytes that
-- came show that the service speaks Telnet, and else not.
pub record HoldsTalk (line_end : LineEnd) (origin : KeySource) (keys seen now : Option (List ℕ)) (report : TalkReport)
    : Type 0 where
  pub unsent : List ℕ
  pub keys_left : Option (List ℕ)
  pub service : Option (List ℕ)
  pub service_left : Option (List ℕ)
  pub warned : Option ℕ
  pub warned_at_last : Option ℕ
  pub ran : Talked line_end (is_terminal origin) (bytes_in report.typed) (bytes_in report.heard) unsent
      (streams keys service (Some []) seen warned)
      (streams keys_left service_left (Some (logged report.told)) now warned_at_last)
  pub count : report.unsent ≡ length unsent
  pub warnings : count_in report.warned ≡ warnings_if (negotiates (bytes_in report.heard))

-- a talk was held with the lines that the bytes of a reader are
abbrev pub HoldsTyped : LineEnd → KeySource → Option (List ℕ) → Option (List ℕ) → Option (List ℕ) → TalkReport
    → Type 0
HoldsTyped line_end origin bytes seen now report =
    HoldsTalk line_end origin (lines_in origin bytes) seen now report

-- a talk was held so, and its connection did not break
abbrev pub RunsTalk : LineEnd → KeySource → Option (List ℕ) → Option (List ℕ) → Option (List ℕ) → TalkReport
    → Type 0
RunsTalk line_end origin bytes seen now report =
    HoldsTyped line_end origin bytes seen now report × (report.over ≢ Broken)

-- if the talk ended since the service closed: all that the service was to give was read
abbrev pub HeardToTheEnd : Option (List ℕ) → TalkReport → Type 0
HeardToTheEnd service report =
    report.over ≡ Closed → IfSome service (λ bytes. bytes_in report.heard ≡ bytes)

-- the connection that a talk was held over
abbrev pub talked_over : TalkReport → TcpStream
talked_over report = report.connection.value
