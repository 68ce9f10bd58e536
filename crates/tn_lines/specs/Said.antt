-- The bytes that a service gets of lines: theirs as they are, and for each line end, which is CR, LF or CR LF, the one
-- that was chosen.
use Rattle.std.specs.Prelude.{◌≡◌, ℕ, ◌==◌, Bool, false, List, [], ◌∷◌, ◌++◌, if◌then◌else◌}
use Rattle.tn_lines.specs.{LineEnds.end_bytes, declared.{line_ends.LineEnd.LineEnd, lines.Lines.Lines}}

-- a line feed after a carriage return ends the same line
abbrev pub byte_said : LineEnd → Bool → ℕ → List ℕ
byte_said line_end after_return byte =
    if byte == 13 then end_bytes line_end
    else (if byte == 10 then (if after_return then [] else end_bytes line_end) else byte ∷ [])

-- a carriage return came before them, or did not
abbrev pub said_from : LineEnd → Bool → List ℕ → List ℕ
said_from line_end after_return [] = []
said_from line_end after_return (byte ∷ bytes) =
    byte_said line_end after_return byte ++ said_from line_end (byte == 13) bytes

-- a carriage return is the last of them, or came before them if there is none
abbrev pub ends_in_return : Bool → List ℕ → Bool
ends_in_return after_return [] = after_return
ends_in_return after_return (byte ∷ bytes) = ends_in_return (byte == 13) bytes

-- the bytes that are sent for all bytes of the lines
abbrev pub said_of : LineEnd → List ℕ → List ℕ
said_of line_end bytes = said_from line_end false bytes

-- these bytes were read
abbrev pub LeadsTo : List ℕ → Lines → Type 0
LeadsTo bytes lines = lines.after_return ≡ ends_in_return false bytes

-- After any bytes that were read before, these bytes lead to the new lines; and these bytes more are to be
-- sent.
pub record Reads (old : Lines) (bytes said : List ℕ) (new : Lines) : Type 0 where
  pub leads : (before : List ℕ) → LeadsTo before old → LeadsTo (before ++ bytes) new
  pub says : (before : List ℕ) → LeadsTo before old
      → said_of old.line_end (before ++ bytes) ≡ said_of old.line_end before ++ said
  pub line_end : new.line_end ≡ old.line_end
