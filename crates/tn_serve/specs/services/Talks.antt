-- The bytes that went to the service in a whole talk, and those of its own that were shown.
use Rattle.std.specs.Prelude.{◌≡◌, ◌⊎◌, ℕ, Bool, true, false, IsFalse, Option, List, [], ◌∷◌, ◌++◌, length}
use Rattle.std.specs.{Prelude.map, List.concat, Io.KnownBytes.{Consumes, IsAtEnd}}
use Rattle.tn_discipline.specs.declared.reads.Entry.{Entry, TheVariants.{Text, Eof, Signal}}
use Rattle.tn_discipline.specs.declared.reads.Sig.TheVariants.{Int, Quit, Tstp}
use Rattle.tn_serve.specs.services.{Cutting.is_ending, NewLines.{shown_of, waiting}, Showing.IsToFail}
use Rattle.tn_serve.specs.declared.services.{cutting.LineFormat.LineFormat, sending.SendingLines.SendingLines}
use Rattle.tn_serve.specs.declared.services.{joining.Gateway.Gateway, showing.Showing.Showing}
use Rattle.tn_serve.specs.declared.services.sending.Way.{Way, TheVariants.{Open, Ended, Broken}}
use Rattle.tn_serve.specs.declared.services.joining.Gateway.TheVariants as side
use Rattle.tn_jobs.specs.declared.{reactions.Reaction.Reaction, verdicts.After.TheVariants.{Stay, Done}}
use Rattle.tn_lines.specs.LineEnds.{line_said}
use Rattle.tn_cores.specs.streams.{Writing.{Writes, Tells}, Foretelling.Failures, Telling.Calls}
use Rattle.tn_cores.specs.streams.Known.{KnownReader, KnownWriting, known_reader, known_writing}
use Rattle.tn_cores.specs.declared.streams.window.WindowSize.{WindowSize}

-- a line, and what is due after it; or nothing, if it ends the session
abbrev pub due_from : Bool → List ℕ → List ℕ → List ℕ
due_from true bytes more = []
due_from false bytes more = bytes ++ more

-- a key that is sent, and what is due after it; or what is due if it is not
abbrev pub due_key : Bool → ℕ → List ℕ → List ℕ → List ℕ
due_key true byte else_due more = byte ∷ more
due_key false byte else_due more = else_due

-- the bytes that are due to the service: each line once, in order, up to the end of file, an interrupt or a
-- quit, or to a line that ends the session; but if signals are sent, these and a stop are keys
abbrev pub due : LineFormat → List Entry → List ℕ
due lines [] = []
due lines (Text line ∷ entries) =
    due_from (is_ending lines line) (line_said lines.line_end line) (due lines entries)
due lines (Signal Tstp ∷ entries) = due_key lines.sends_signals 26 (due lines entries) (due lines entries)
due lines (Signal Int ∷ entries) = due_key lines.sends_signals 3 [] (due lines entries)
due lines (Signal Quit ∷ entries) = due_key lines.sends_signals 28 [] (due lines entries)
due lines (Eof ∷ entries) = due_key lines.sends_signals 4 [] (due lines entries)

-- no write has failed
abbrev pub goes_well : Way → Bool
goes_well Open = true
goes_well Ended = true
goes_well Broken = false

-- All that was due was written and nothing else; or a write failed, and the first of it was.
pub record SendsAll (bytes : List ℕ) (writer : KnownWriting) (way : Way) : Type 0 where
  pub wrote : Writes (goes_well way) writer.before.bytes writer.after.bytes bytes
  pub tells : Tells (goes_well way) writer.before.calls writer.after.calls

-- these entries with their answers led the job in the foreground to this state
abbrev pub SendsTalk : {R W : Type 0} → (W → Option (List ℕ)) → (W → Option Calls)
    → SendingLines W → List Entry → Gateway R W → Type 0
SendsTalk contents told first entries (side.Sends last) =
    SendsAll (due first.lines entries) (known_writing contents told first.writer last.writer) last.way
SendsTalk contents told first entries (side.Shows last) = ⊥

-- the texts of these reactions, joined
abbrev pub texts_of : List Reaction → List ℕ
texts_of reactions = concat (map (λ r. r.text) reactions)

-- the last of them ended the job, and none before it
abbrev pub EndsAtLast : List Reaction → Type 0
EndsAtLast [] = ⊥
EndsAtLast (r ∷ []) = r.after ≡ Done
EndsAtLast (r ∷ next ∷ reactions) = (r.after ≡ Stay) × EndsAtLast (next ∷ reactions)

-- The bytes that were shown are those that the reader gave, in order, with a line feed for each new line, but
-- for a carriage return that waits; and all of them once the job has ended, unless a read is to fail. Each
-- step made one read.
pub record ShowsAll (waited : Bool) (reactions : List Reaction) (waits : Bool)
    (first last : KnownReader) : Type 0 where
  pub reads : List (List ℕ)
  pub each : length reads ≡ length reactions
  pub came : Consumes first.bytes last.bytes (concat reads)
  pub shown : texts_of reactions ++ waiting waits ≡ shown_of (waiting waited) reads
  pub none_waits : EndsAtLast reactions → IsFalse waits
  pub all : EndsAtLast reactions → IsAtEnd last.bytes ⊎ IsToFail first.failures

-- these steps led the job in the background to this state
abbrev pub ShowsTalk : {R W : Type 0} → (R → Option (List ℕ)) → (R → Option Failures)
    → (R → Option (List WindowSize)) → (R → List (List ℕ)) → Showing R → List Reaction → Gateway R W → Type 0
ShowsTalk remaining foretold sizes words first reactions (side.Shows last) =
    ShowsAll first.waits reactions last.waits
    (known_reader remaining foretold sizes words first.reader)
    (known_reader remaining foretold sizes words last.reader)
ShowsTalk remaining foretold sizes words first reactions (side.Sends last) = ⊥
