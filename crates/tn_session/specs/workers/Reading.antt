-- The bytes that a thread that reads takes from its reader.
use Rattle.std.specs.Prelude.{ℕ, ◌<◌, ◌≤◌, List, Option, [], ◌∷◌, length, map, ⊤}
use Rattle.std.specs.Io.KnownBytes.{Consumes, IsAtEnd}
use Rattle.tn_cores.specs.streams.Foretelling.{Failures, HasCome, WillFail}
use Rattle.tn_cores.specs.declared.streams.{control.Control.Control, window.WindowSize.WindowSize}
use Rattle.tn_cores.specs.declared.messages.Message.{Message, TheVariants.Refused}
use Rattle.tn_cores.specs.declared.messages.Message.TheVariants.{Resized, Asked, Piece, HangUp, ReadFailed}
use Rattle.tn_session.specs.declared.workers.reader.Got.{Got, TheVariants.{Bytes, Again, Last}}

-- the end of the reading; after a hang-up nothing is left
abbrev pub IsEnding : Message → Option (List ℕ) → Type 0
IsEnding HangUp left = IsAtEnd left
IsEnding ReadFailed left = ⊤
IsEnding Refused left = ⊤
IsEnding _ left = ⊥

-- a piece has some bytes, and at most as many as one read asks for
abbrev pub IsPiece : List ℕ → Type 0
IsPiece piece = (0 < length piece) × (length piece ≤ 512)

-- the result of one read
abbrev pub Gives : Option (List ℕ) → Option (List ℕ) → Got → Type 0
Gives old new (Bytes text) = Consumes old new text × IsPiece text
Gives old new Again = Consumes old new []
Gives old new (Last last) = Consumes old new [] × IsEnding last new

-- a message of a thread that reads, before the end: a piece, a size of the window, or a control function
pub data Telling : Type 0 where
  piece_told : List ℕ → Telling
  size_told : WindowSize → Telling
  control_told : Control → Telling

-- a report of a reader as a message
abbrev pub message_of : Telling → Message
message_of (piece_told p) = Piece p
message_of (size_told s) = Resized s
message_of (control_told c) = Asked c

-- the reports of a reader as messages
abbrev pub told_messages : List Telling → List Message
told_messages told = map message_of told

-- the pieces among these reports
abbrev pub pieces_in : List Telling → List (List ℕ)
pieces_in [] = []
pieces_in (piece_told p ∷ told) = p ∷ pieces_in told
pieces_in (size_told s ∷ told) = pieces_in told
pieces_in (control_told c ∷ told) = pieces_in told

-- the sizes among these reports
abbrev pub sizes_in : List Telling → List WindowSize
sizes_in [] = []
sizes_in (piece_told p ∷ told) = sizes_in told
sizes_in (size_told s ∷ told) = s ∷ sizes_in told
sizes_in (control_told c ∷ told) = sizes_in told

-- the control functions among these reports
abbrev pub controls_in : List Telling → List Control
controls_in [] = []
controls_in (piece_told p ∷ told) = controls_in told
controls_in (size_told s ∷ told) = controls_in told
controls_in (control_told c ∷ told) = c ∷ controls_in told

-- the most reads of a thread
abbrev pub max_reads : ℕ
max_reads = 4294967295

-- Why the thread sends this after this number of pieces: that reading failed, only if a read fails, or after
-- as many reads as it makes.
abbrev pub IsReadCause : Option Failures → ℕ → Message → Type 0
IsReadCause foretold pieces ReadFailed = WillFail max_reads pieces foretold
IsReadCause foretold pieces _ = ⊤

-- the facts that were foretold of the read that gave this
abbrev pub IsForetold : Option Failures → Option Failures → Got → Type 0
IsForetold old new (Bytes text) = HasCome 1 1 old new
IsForetold old new Again = HasCome 1 0 old new
IsForetold old new (Last last) = IsReadCause old 0 last
