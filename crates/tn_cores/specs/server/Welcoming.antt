-- The messages that are welcome if a session holds its reader back, and the end that none of them brings.
use Rattle.std.specs.Prelude.{◌≤◌, ◌<◌, ◌+◌, ◌⊎◌, ℕ, IsFalse, List, [], ◌∷◌, length, ⊤}
use Rattle.tn_discipline.specs.declared.reads.Entry.{Entry, TheVariants.Text}
use Rattle.tn_cores.specs.declared.faults.{Ended.{Ended, TheVariants.Fault}, SessionFault.TheVariants.Server}
use Rattle.tn_cores.specs.{declared.messages.Message.{Message, TheVariants.Piece}, server.Run.Run}
use Rattle.tn_pty.specs.declared.pty.PtyFault.TheVariants.{TooFarAhead}
use Rattle.tn_server.specs.{Lines.waiting, declared.faults.ServerFault.TheVariants.Pty}

-- the most bytes of a welcome piece
abbrev pub max_piece : ℕ
max_piece = 512

-- the most entries that wait if a piece is welcome
abbrev pub max_before_piece : ℕ
max_before_piece = 511

-- the most bytes that the lines which wait have if a piece is welcome
abbrev pub max_bytes_before_piece : ℕ
max_bytes_before_piece = 60000

-- the number of bytes of the lines among these entries
unfoldable pub line_bytes : List Entry → ℕ
line_bytes [] = 0
line_bytes (Text line ∷ entries) = length line + line_bytes entries
line_bytes (_ ∷ entries) = line_bytes entries

-- next to these entries there is room for those of a piece
abbrev pub HasRoom : List Entry → Type 0
HasRoom entries = (length entries ≤ max_before_piece) × (line_bytes entries ≤ max_bytes_before_piece)

-- too many entries, or too long ones, for a piece to be welcome
abbrev pub IsCrowded : List Entry → Type 0
IsCrowded entries = (max_before_piece < length entries) ⊎ (max_bytes_before_piece < line_bytes entries)

-- a short piece is welcome if there is room for its entries, or nothing has any effect; any other message is
abbrev pub IsWelcome : Run → Message → Type 0
IsWelcome c (Piece piece) =
    (length piece ≤ max_piece) × (IsFalse c.progress.over → HasRoom (waiting c.history))
IsWelcome c _ = ⊤

-- a piece that is too long, or one that comes too early
abbrev pub IsUnwelcome : Run → Message → Type 0
IsUnwelcome c (Piece piece) =
    (max_piece < length piece)
    ⊎ (IsFalse c.progress.over × IsCrowded (waiting c.history))
IsUnwelcome c _ = ⊥

-- the session ended because too many entries waited
abbrev pub too_far_ahead : Ended
too_far_ahead = Fault (Server (Pty TooFarAhead))
