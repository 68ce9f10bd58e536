-- A user's request between keys, as an event at a client end: a command is sent, or a new line is entered.
use Rattle.std.specs.Prelude.{Option, Some, None}
use Rattle.tn_client.specs.{Events.{Event, sent, entered}, declared.commands.UserCommand.UserCommand}
use Rattle.tn_client.specs.declared.commands.UserCommand.TheVariants as user
use Rattle.tn_cores.specs.declared.streams.control.Control.{Control, TheVariants.{Brk, Ip, Ayt, NewLine}}

-- the command of a request, or none for a new line
abbrev pub command_of : Control → Option UserCommand
command_of Brk = Some user.Brk
command_of Ip = Some user.Ip
command_of Ayt = Some user.Ayt
command_of NewLine = None

-- a command as an event, or a new line if there is none
abbrev pub event_by : Option UserCommand → Event
event_by (Some command) = sent command
event_by None = entered

-- a request between keys as an event
abbrev pub event_of : Control → Event
event_of control = event_by (command_of control)
