-- The end of a run: the message that brought the fault, or the mark that it left.
use Rattle.std.specs.Prelude.{◌≡◌, Bool, IsFalse, List, ◌⊎◌}
use Rattle.tn_cores.specs.Ending as run
use Rattle.tn_cores.specs.server.{Marks.Turns, Refusing.IsRefusalCause, Run.Run}
use Rattle.tn_cores.specs.declared.faults.Ended.{Ended, TheVariants.{HangUp, Done, Fault}}
use Rattle.tn_cores.specs.declared.faults.SessionFault.{SessionFault, TheVariants.{Client, Memory}}
use Rattle.tn_cores.specs.declared.faults.SessionFault.TheVariants.{Start, Channel, Read, Write, Server}
use Rattle.tn_cores.specs.declared.{server.messages.ServerMark.ServerMark, messages.Message.Message}
use Rattle.tn_cores.specs.declared.server.messages.ServerMark.TheVariants as mark
use Rattle.tn_cores.specs.declared.messages.Message.TheVariants as message

-- this message with this mark is why the run ended so
abbrev pub EndsAt : Run → Message → ServerMark → Ended → Type 0
EndsAt c m k HangUp = Unit {0}
EndsAt c m k Done = Unit {0}
EndsAt c m k (Fault Read) = m ≡ message.ReadFailed
EndsAt c m k (Fault Write) = k ≡ mark.WriteFailed
EndsAt c m k (Fault (Server f)) = (put : Bool) × (k ≡ mark.Refused f put) × IsRefusalCause c m f
EndsAt c m k (Fault (Client f)) = ⊥
EndsAt c m k (Fault Memory) = m ≡ message.Refused
EndsAt c m k (Fault Start) = ⊥
EndsAt c m k (Fault Channel) = ⊥

-- at one of these messages, with its mark
abbrev pub IsEndedAt : Run → List (Message × ServerMark) → Ended → Type 0
IsEndedAt c marked ended = run.IsEndedAt Turns (λ at m e. EndsAt at m.0 m.1 e) c marked ended

-- The reason why a run ended by this fault: the opening messages were not written, or a message.
abbrev pub IsFaultCause : Bool → Run → List (Message × ServerMark) → SessionFault → Type 0
IsFaultCause opens c marked Write = IsFalse opens ⊎ IsEndedAt c marked (Fault Write)
IsFaultCause opens c marked f = IsEndedAt c marked (Fault f)
