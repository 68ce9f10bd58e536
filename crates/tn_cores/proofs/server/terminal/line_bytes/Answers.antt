use Rattle.std.proofs.Common.{◌∙◌, ℕ, List, length, ap, refl}
use Rattle.tn_cores.specs.server.Welcoming.{line_bytes}
use Rattle.tn_cores.proofs.of_terminal.Room.{line_bytes-line}
use Rattle.tn_cores.proofs.server.terminal.line_bytes.Goals as goal

pub returns-in-Text : goal.returns-in-Text
returns-in-Text c = rw c.in-Text.is (ap (λ (xs : List ℕ). length xs) c.as_slice.ensures ∙ line_bytes-line c.in-Text.line)

pub returns-in-Eof : goal.returns-in-Eof
unfolding line_bytes
returns-in-Eof c = rw c.in-Eof.is refl

pub returns-in-Signal : goal.returns-in-Signal
unfolding line_bytes
returns-in-Signal c = rw c.in-Signal.is refl
