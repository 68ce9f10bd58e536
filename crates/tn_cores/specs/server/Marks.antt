-- The run of the messages, each with its mark: how far it was done.
use Rattle.std.specs.{Prelude.{◌≡◌, Bool, true, false, IsFalse, ◌&&◌, List, [], ◌∷◌}, List.FoldsTo}
use Rattle.tn_cores.specs.server.{Refusing.IsRefusalCause, Run.{Run, Handles, fail}}
use Rattle.tn_cores.specs.declared.{server.messages.ServerMark.ServerMark, messages.Message.Message}
use Rattle.tn_cores.specs.declared.messages.Message.TheVariants.{Take}
use Rattle.tn_cores.specs.declared.faults.SessionFault.TheVariants as fault
use Rattle.tn_cores.specs.declared.server.messages.ServerMark.TheVariants as mark

-- whether a request waits if the message gave nothing
abbrev pub asks_at : Message → Run → Bool
asks_at Take c = true
asks_at _ c = c.progress.asks

-- the run to which the whole message leads, but that nothing was put
abbrev pub unput : Message → Run → Run → Run
unput m c whole =
    record whole {
      puts = c.puts;
      progress = record (whole.progress) { asks = asks_at m c; entries = c.progress.entries };
    }

-- the effect of the message if a call was refused, after its entry was put, or before
abbrev pub put_or_not : Bool → Message → Run → Run → Run
put_or_not true m c whole = whole
put_or_not false m c whole = unput m c whole

-- A message with its mark. None is written, and no call is made, once nothing has any effect. A call that was
-- refused was so for its cause.
abbrev pub Turns : Run → Message × ServerMark → Run → Type 0
Turns c (m, mark.Whole) new = Handles c m new
Turns c (m, mark.WriteFailed) new =
    IsFalse c.progress.over × (whole : Run) × Handles c m whole × (new ≡ fail fault.Write whole)
Turns c (m, mark.Refused f put) new =
    IsFalse c.progress.over × (whole : Run) × Handles c m whole
    × (new ≡ fail (fault.Server f) (put_or_not put m c whole)) × IsRefusalCause c m f

-- a message that was done wholly, and written
abbrev pub is_whole : ServerMark → Bool
is_whole mark.Whole = true
is_whole mark.WriteFailed = false
is_whole (mark.Refused f put) = false

-- each message was done wholly, and written
abbrev pub all_whole : List (Message × ServerMark) → Bool
all_whole [] = true
all_whole ((m, mark.Whole) ∷ marked) = all_whole marked
all_whole ((m, mark.WriteFailed) ∷ marked) = false
all_whole ((m, mark.Refused f put) ∷ marked) = false

-- no write of it failed
abbrev pub no_write_failed : ServerMark → Bool
no_write_failed mark.Whole = true
no_write_failed mark.WriteFailed = false
no_write_failed (mark.Refused f put) = true

-- no write failed
abbrev pub no_writes_failed : List (Message × ServerMark) → Bool
no_writes_failed [] = true
no_writes_failed (m ∷ marked) = no_write_failed m.1 && no_writes_failed marked

-- the terminal if the opening messages were written, and if that write failed
abbrev pub run_after_opening : Bool → Run → Run
run_after_opening true c = c
run_after_opening false c = fail fault.Write c

-- the run to which these messages with their marks lead
abbrev pub Runs : Run → List (Message × ServerMark) → Run → Type 0
Runs c marked new = FoldsTo Turns c marked new
