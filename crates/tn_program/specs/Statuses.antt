-- The status of a process, by the outcome of its arguments.
use Rattle.std.specs.Prelude.{ℕ, Result, Ok, Err}
use Rattle.tn_cli.specs.Faults.{status_after}
use Rattle.tn_connect.specs.declared.{fault.ConnectFault.ConnectFault, talks.TalkReport.TalkReport}
use Rattle.tn_connect.specs.declared.fault.ConnectFault.TheVariants as connect
use Rattle.tn_lines.specs.declared.talk.Over.{Over}
use Rattle.tn_lines.specs.declared.talk.Over.TheVariants as over
use Rattle.tn_serve.specs.declared.fault.ServeFault.{ServeFault}
use Rattle.tn_serve.specs.declared.fault.ServeFault.TheVariants as serve
use Rattle.tn_program.specs.declared.outcome.Outcome.{Outcome}
use Rattle.tn_program.specs.declared.outcome.Outcome.TheVariants as outcome

-- the status of a fault of serving
abbrev pub status_of_serving : ServeFault → ℕ
status_of_serving serve.Network = 1
status_of_serving serve.Memory = 1
status_of_serving serve.Limit = 2

-- the status of a fault of connecting
abbrev pub status_of_connecting : ConnectFault → ℕ
status_of_connecting connect.Network = 1
status_of_connecting connect.Memory = 1
status_of_connecting connect.Session = 3

-- the status after a server's sessions
abbrev pub status_after_serving : {A : Type 0} → Result A ServeFault → ℕ
status_after_serving (Ok done) = 0
status_after_serving (Err fault) = status_of_serving fault

-- the status after a client's session
abbrev pub status_after_connecting : {A : Type 0} → Result A ConnectFault → ℕ
status_after_connecting (Ok done) = 0
status_after_connecting (Err fault) = status_of_connecting fault

-- a user who left by an interrupt has the status that a shell gives; one who asked the client to leave, none
abbrev pub status_of_over : Over → ℕ
status_of_over over.Closed = 0
status_of_over over.Broken = 3
status_of_over over.Left = 130
status_of_over over.Asked = 0

-- the status after a talk with a service that takes lines
abbrev pub status_after_talking : Result TalkReport ConnectFault → ℕ
status_after_talking (Ok report) = status_of_over report.over
status_after_talking (Err fault) = status_of_connecting fault

-- 0 if the run that was asked for was done, and else the status of the fault that met it
abbrev pub status_of : Outcome → ℕ
status_of (outcome.Local ended) = status_after ended
status_of (outcome.Replay ended) = status_after ended
status_of (outcome.Decode ended) = status_after ended
status_of (outcome.World ended) = status_after ended
status_of (outcome.Served ended) = status_after_serving ended
status_of (outcome.Connected ended) = status_after_connecting ended
status_of (outcome.Talked ended) = status_after_talking ended
status_of outcome.Untraced = 1
status_of outcome.Unread = 1
status_of (outcome.Help ended) = status_after ended
status_of (outcome.Version ended) = status_after ended
status_of (outcome.Usage detail) = 2
status_of outcome.Memory = 1
