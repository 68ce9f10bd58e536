-- The entries that reads of the terminal return (XBD 11.1.6). A signal does not flush the line (NOFLSH, XBD
-- 11.2.5).
use Rattle.std.specs.{Prelude.{ℕ, ◌≤◌, List, [], ◌∷◌, ◌++◌, length}, List.flat_map}
use Rattle.tn_discipline.specs.{Admitted.admitted_roles, Pieces.{Piece, pieces_of}, Kept.kept_bytes}
use Rattle.tn_discipline.specs.declared.{reads.Entry.Entry, keys.Role.Role}
use Rattle.tn_discipline.specs.declared.reads.Entry.TheVariants as entry
use Rattle.tn_discipline.specs.declared.keys.Role.TheVariants as role

-- the signals among these keys
abbrev pub signals : List Role → List Entry
signals [] = []
signals (role.Signal sig ∷ roles) = entry.Signal sig ∷ signals roles
signals (_ ∷ roles) = signals roles

-- XBD 11.1.9, EOF: a closed line is a text, or the end of file if it has no byte
abbrev pub line_of : List ℕ → Entry
line_of [] = entry.Eof
line_of (byte ∷ bytes) = entry.Text (byte ∷ bytes)

-- the entry has at most this number of bytes, its closing one among them
abbrev pub HasAtMost : ℕ → Entry → Type 0
HasAtMost limit (entry.Text bytes) = length bytes ≤ limit
HasAtMost limit entry.Eof = Unit {0}
HasAtMost limit (entry.Signal sig) = Unit {0}

-- a closed piece gives its signals, and then what is kept of it with its closing byte
abbrev pub piece_entries : Piece → List Entry
piece_entries piece = signals piece.keys ++ line_of (kept_bytes piece.keys ++ piece.closing) ∷ []

-- the entries of these keys, if a line has at most this number of bytes with its closing byte
abbrev pub entries_of : ℕ → List Role → List Entry
entries_of limit roles =
    let pieces = pieces_of (admitted_roles limit roles) in
    flat_map piece_entries pieces.closed ++ signals pieces.last

-- the half-typed line that these keys leave
abbrev pub half_of : ℕ → List Role → List ℕ
half_of limit roles = kept_bytes (pieces_of (admitted_roles limit roles)).last
