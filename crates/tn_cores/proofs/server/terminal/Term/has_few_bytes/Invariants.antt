use Rattle.tn_server.specs.Lines.{waiting}
use Rattle.tn_cores.specs.server.{Reaching.LeadsTo, Run.Run}
use Rattle.tn_cores.proofs.of_terminal.Room.{IsLeft}
use Rattle.tn_cores.proofs.server.terminal.Term.has_few_bytes.Given as goal

-- the bytes of the lines so far were taken off the room
abbrev pub invariant-loop-index : goal.invariant-loop-index
invariant-loop-index l = (c : Run) → LeadsTo c l.self → IsLeft (waiting c.history) l.room l.index
