-- A list of keys, cut into lines (XBD 11.1.6: a line is delimited by NL, EOF or EOL; EOL2 is a
-- second EOL).
use Rattle.std.specs.Prelude.{ℕ, Option, Some, None, List, [], ◌∷◌}
use Rattle.tn_discipline.specs.declared.keys.Role.{Role}
use Rattle.tn_discipline.specs.declared.keys.Role.TheVariants as role

-- the bytes that a key closes a line with: NL a line feed, EOL and EOL2 their own byte, EOF none. Other keys
-- do not close
abbrev pub closing_bytes : Role → Option (List ℕ)
closing_bytes role.Nl = Some (10 ∷ [])
closing_bytes (role.Eol byte) = Some (byte ∷ [])
closing_bytes (role.Eol2 byte) = Some (byte ∷ [])
closing_bytes role.Eof = Some []
closing_bytes _ = None

-- a closed piece: the keys before its closing key, and the bytes that it is closed with
pub record Piece : Type 0 where
  pub keys : List Role
  pub closing : List ℕ

-- the closed pieces, and the keys after the last closing key
pub record Pieces : Type 0 where
  pub closed : List Piece
  pub last : List Role

-- these pieces with one more key at the head of the first
abbrev pub put_first : Role → List Piece → List Role → Pieces
put_first r [] last = record { closed = []; last = r ∷ last }
put_first r (p ∷ ps) last =
    record { closed = record { keys = r ∷ p.keys; closing = p.closing } ∷ ps; last = last }

-- these pieces with one more key before them, which is a piece of its own if it closes
abbrev pub cut_before : Option (List ℕ) → Role → Pieces → Pieces
cut_before None r pieces = put_first r pieces.closed pieces.last
cut_before (Some bytes) r pieces =
    record { closed = record { keys = []; closing = bytes } ∷ pieces.closed; last = pieces.last }

-- the keys, cut after each closing key
abbrev pub pieces_of : List Role → Pieces
pieces_of [] = record { closed = []; last = [] }
pieces_of (r ∷ roles) = cut_before (closing_bytes r) r (pieces_of roles)
