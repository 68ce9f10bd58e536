-- The bytes that the job in the foreground sends to the service at an entry, and the text that it shows the
-- user.
use Rattle.std.specs.Prelude.{◌≡◌, ◌≢◌, ℕ, Bool, true, false, if◌then◌else◌, Option, List, [], ◌∷◌, codes}
use Rattle.std.specs.Io.KnownBytes.{Keeps}
use Rattle.tn_discipline.specs.declared.reads.Entry.{Entry, TheVariants.{Text, Eof, Signal}}
use Rattle.tn_discipline.specs.declared.reads.Sig.TheVariants.{Int, Quit, Tstp}
use Rattle.tn_serve.specs.{services.Cutting.is_ending, declared.services.cutting.LineFormat.LineFormat}
use Rattle.tn_serve.specs.declared.services.sending.{Way.Way, SendingLines.SendingLines}
use Rattle.tn_serve.specs.declared.services.sending.Way.TheVariants.{Open, Ended, Broken}
use Rattle.tn_jobs.specs.declared.{reactions.Reaction.Reaction, verdicts.After.After}
use Rattle.tn_jobs.specs.declared.verdicts.After.TheVariants.{Stay, Done}
use Rattle.tn_lines.specs.LineEnds.{line_said}
use Rattle.tn_cores.specs.streams.{Writing.{Writes, Tells}, Known.{KnownWriting, known_writing}}
use Rattle.tn_cores.specs.streams.Telling.{Calls}

-- a reaction with this text
abbrev pub say : List ℕ → After → Reaction
say text after = record { text = text; after = after }

-- a reaction without a text
abbrev pub silent : After → Reaction
silent after = say [] after

-- to a line that ends the session or not, while it may go to the service
abbrev pub line_answer : Bool → Reaction
line_answer true = say (codes "line cut\n") Done
line_answer false = silent Stay

-- whether signals and the end of file go to the service
abbrev pub is_sent : LineFormat → Way → Bool
is_sent lines Open = lines.sends_signals
is_sent lines Ended = false
is_sent lines Broken = false

-- to an interrupt or a quit that is sent, or not
abbrev pub kill_answer : Bool → Reaction
kill_answer sent = silent (if sent then Stay else Done)

-- The user gets a text only if a line after the end of file goes nowhere, or a line ends the session.
abbrev pub answer : LineFormat → Way → Entry → Reaction
answer lines Open (Text line) = line_answer (is_ending lines line)
answer lines Ended (Text line) = say (codes "closed\n") Stay
answer lines Broken (Text line) = silent Stay
answer lines way Eof = silent Stay
answer lines way (Signal Int) = kill_answer (is_sent lines way)
answer lines way (Signal Quit) = kill_answer (is_sent lines way)
answer lines way (Signal Tstp) = silent Stay

-- the way to the service once it is ended
abbrev pub ended : Way → Way
ended Open = Ended
ended Ended = Ended
ended Broken = Broken

-- the way after a write, of which all went well or not
abbrev pub way_after : Bool → Way
way_after true = Open
way_after false = Broken

-- These bytes were written; or a write failed, and the first of them were.
pub record WritesBytes (bytes : List ℕ) (writer : KnownWriting) (way : Way) : Type 0 where
  pub whole : Bool
  pub wrote : Writes whole writer.before.bytes writer.after.bytes bytes
  pub tells : Tells whole writer.before.calls writer.after.calls
  pub leaves : way ≡ way_after whole

-- Nothing was written.
pub record WritesNothing (writer : KnownWriting) : Type 0 where
  pub bytes : Keeps writer.before.bytes writer.after.bytes
  pub calls : writer.after.calls ≡ writer.before.calls

-- the bytes that go to the service of a line that ends the session or not, while the way is open
abbrev pub GoesLine : Bool → List ℕ → KnownWriting → Way → Type 0
GoesLine true bytes writer new = WritesNothing writer × (new ≡ Ended)
GoesLine false bytes writer new = WritesBytes bytes writer new

-- the bytes that go to the service of a key that is sent or not, and the state of the way after it if not
abbrev pub GoesKey : Bool → ℕ → Way → KnownWriting → Way → Type 0
GoesKey true byte way writer new = WritesBytes (byte ∷ []) writer new
GoesKey false byte way writer new = WritesNothing writer × (new ≡ way)

-- the bytes that go to the service at an entry, and the state of the way before and after it: the keys are
-- ^D, ^C, ^\ and ^Z
abbrev pub Goes : LineFormat → Way → Entry → KnownWriting → Way → Type 0
Goes lines Open (Text line) writer new =
    GoesLine (is_ending lines line) (line_said lines.line_end line) writer new
Goes lines Ended (Text line) writer new = WritesNothing writer × (new ≡ Ended)
Goes lines Broken (Text line) writer new = WritesNothing writer × (new ≡ Broken)
Goes lines old Eof writer new = GoesKey (is_sent lines old) 4 (ended old) writer new
Goes lines old (Signal Int) writer new = GoesKey (is_sent lines old) 3 (ended old) writer new
Goes lines old (Signal Quit) writer new = GoesKey (is_sent lines old) 28 (ended old) writer new
Goes lines old (Signal Tstp) writer new = GoesKey (is_sent lines old) 26 old writer new

-- one entry was answered, with a writer of which this is known
pub record SendsEntry {W : Type 0} (contents : W → Option (List ℕ)) (told : W → Option Calls)
    (old : SendingLines W) (entry : Entry) (reaction : Reaction) (new : SendingLines W) : Type 0 where
  pub says : reaction ≡ answer old.lines old.way entry
  pub goes : Goes old.lines old.way entry (known_writing contents told old.writer new.writer) new.way
  pub lines : new.lines ≡ old.lines

-- memory may be wanted for a line that goes to the service, and for telling that one goes nowhere
abbrev pub WantsMemory : {W : Type 0} → SendingLines W → Entry → Type 0
WantsMemory sending (Text line) = sending.way ≢ Broken
WantsMemory sending entry = ⊥
