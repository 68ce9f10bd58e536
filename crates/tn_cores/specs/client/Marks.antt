-- The run of the messages, each with its mark: how far it was done.
use Rattle.std.specs.{Prelude.{◌≡◌, Bool, true, false, IsFalse, ◌&&◌, List, [], ◌∷◌}, List.FoldsTo}
use Rattle.tn_cores.specs.client.{Refusing.IsRefusalCause, Run.{Run, Handles, fail}}
use Rattle.tn_cores.specs.declared.client.messages.{ClientMark.ClientMark, Told.Told}
use Rattle.tn_cores.specs.declared.client.messages.ClientMark.TheVariants as mark
use Rattle.tn_cores.specs.declared.faults.SessionFault.TheVariants as fault

-- A message with its mark. None is written, and no call is made, once nothing has any effect. A call that was
-- refused was so for its cause.
abbrev pub Turns : Run → Told × ClientMark → Run → Type 0
Turns c (m, mark.Whole) new = Handles c m new
Turns c (m, mark.WriteFailed) new =
    IsFalse c.progress.over × (whole : Run) × Handles c m whole × (new ≡ fail fault.Write whole)
Turns c (m, mark.ShowFailed) new =
    IsFalse c.progress.over × (whole : Run) × Handles c m whole × (new ≡ fail fault.Write whole)
Turns c (m, mark.Refused f) new =
    IsFalse c.progress.over × (whole : Run) × Handles c m whole × (new ≡ fail (fault.Client f) whole)
    × IsRefusalCause c m.from m.message f

-- the bytes that it sends were written
abbrev pub is_written : ClientMark → Bool
is_written mark.Whole = true
is_written mark.ShowFailed = true
is_written mark.WriteFailed = false
is_written (mark.Refused f) = false

-- the message was done wholly, written and shown
abbrev pub is_whole : ClientMark → Bool
is_whole mark.Whole = true
is_whole mark.ShowFailed = false
is_whole mark.WriteFailed = false
is_whole (mark.Refused f) = false

-- no write of it to the network failed
abbrev pub no_write_failed : ClientMark → Bool
no_write_failed mark.Whole = true
no_write_failed mark.ShowFailed = true
no_write_failed mark.WriteFailed = false
no_write_failed (mark.Refused f) = true

-- no write to the screen failed
abbrev pub no_show_failed : ClientMark → Bool
no_show_failed mark.Whole = true
no_show_failed mark.ShowFailed = false
no_show_failed mark.WriteFailed = true
no_show_failed (mark.Refused f) = true

-- each of these marks passes the test
abbrev pub all_by : (ClientMark → Bool) → List (Told × ClientMark) → Bool
all_by is [] = true
all_by is ((m, mark) ∷ marked) = is mark && all_by is marked

-- no write to the network failed
abbrev pub all_written : List (Told × ClientMark) → Bool
all_written marked = all_by is_written marked

-- each message was done wholly
abbrev pub all_whole : List (Told × ClientMark) → Bool
all_whole marked = all_by is_whole marked

-- the run to which these messages with their marks lead
abbrev pub Runs : Run → List (Told × ClientMark) → Run → Type 0
Runs c marked new = FoldsTo Turns c marked new
