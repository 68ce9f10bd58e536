-- Symbols in runs: bytes of output that are shown at once, and leading symbols that are pulled at once, as
-- bytes.
use Rattle.std.specs.Prelude.{ℕ, suc, ◌==◌, ◌&&◌, ◌||◌, Bool, false, List, [], ◌∷◌, drop, get_or}
use Rattle.std.specs.Prelude.{if◌then◌else◌}
use Rattle.tn_discipline.specs.declared.echo.Symbol.{Symbol, TheVariants.{Byte, Newline}}

-- the symbol that shows a byte, by whether a line feed is a new line
abbrev pub shown_byte : Bool → ℕ → Symbol
shown_byte newline byte = if byte == 10 && newline then Newline else Byte byte

-- a line feed or one of two other bytes: no run has it
abbrev pub ends_run : ℕ → ℕ → ℕ → Bool
ends_run a b byte = byte == 10 || byte == a || byte == b

-- the leading symbols that are bytes, up to one that ends a run
abbrev pub leading_run : ℕ → ℕ → List Symbol → List ℕ
leading_run a b [] = []
leading_run a b (Newline ∷ rest) = []
leading_run a b (Byte byte ∷ rest) = if ends_run a b byte then [] else byte ∷ leading_run a b rest

-- the number of the bytes that are line feeds
abbrev pub feeds : List ℕ → ℕ
feeds [] = 0
feeds (byte ∷ bytes) = if byte == 10 then suc (feeds bytes) else feeds bytes

-- the marks that are left after a byte: a line feed takes one
abbrev pub marks_after : ℕ → List Bool → List Bool
marks_after byte marks = if byte == 10 then drop 1 marks else marks

-- the symbols that these bytes stand for: each line feed is a new line if its mark says so
abbrev pub marked_symbols : List ℕ → List Bool → List Symbol
marked_symbols [] marks = []
marked_symbols (byte ∷ bytes) marks =
    shown_byte (get_or marks 0 false) byte ∷ marked_symbols bytes (marks_after byte marks)

-- the leading bytes, up to one that ends a run
abbrev pub leading_bytes : ℕ → ℕ → List ℕ → List ℕ
leading_bytes a b [] = []
leading_bytes a b (byte ∷ rest) = if ends_run a b byte then [] else byte ∷ leading_bytes a b rest
