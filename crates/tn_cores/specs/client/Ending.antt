-- The end of a run: the message that brought the fault, or the mark that it left.
use Rattle.std.specs.Prelude.{◌≡◌, List, ◌⊎◌}
use Rattle.tn_cores.specs.client.{Marks.Turns, Refusing.IsRefusalCause, Run.Run}
use Rattle.tn_cores.specs.declared.{client.messages.{ClientMark.ClientMark, Told.Told}, faults.Ended.Ended}
use Rattle.tn_cores.specs.declared.faults.Ended.TheVariants.{HangUp, Done, Fault}
use Rattle.tn_cores.specs.declared.faults.SessionFault.TheVariants.{Read, Write, Server, Client, Memory}
use Rattle.tn_cores.specs.declared.faults.SessionFault.TheVariants.{Start, Channel}
use Rattle.tn_cores.specs.declared.client.messages.ClientMark.TheVariants as mark
use Rattle.tn_cores.specs.Ending as run
use Rattle.tn_cores.specs.declared.messages.Message.TheVariants as message

-- this message with this mark is why the run ended so
abbrev pub EndsAt : Run → Told → ClientMark → Ended → Type 0
EndsAt c m k HangUp = Unit {0}
EndsAt c m k Done = ⊥
EndsAt c m k (Fault Read) = m.message ≡ message.ReadFailed
EndsAt c m k (Fault Write) = (k ≡ mark.WriteFailed) ⊎ (k ≡ mark.ShowFailed)
EndsAt c m k (Fault (Server f)) = ⊥
EndsAt c m k (Fault (Client f)) = (k ≡ mark.Refused f) × IsRefusalCause c m.from m.message f
EndsAt c m k (Fault Memory) = m.message ≡ message.Refused
EndsAt c m k (Fault Start) = ⊥
EndsAt c m k (Fault Channel) = ⊥

-- at one of these messages, with its mark
abbrev pub IsEndedAt : Run → List (Told × ClientMark) → Ended → Type 0
IsEndedAt c marked ended = run.IsEndedAt Turns (λ at m e. EndsAt at m.0 m.1 e) c marked ended
