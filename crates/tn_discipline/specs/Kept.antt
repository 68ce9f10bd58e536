-- The bytes of a line that ERASE and KILL leave (XBD 11.1.9).
use Rattle.std.specs.Prelude.{ℕ, zero, suc, List, [], ◌∷◌, ◌++◌, reverse}
use Rattle.tn_discipline.specs.declared.keys.Role.{Role}
use Rattle.tn_discipline.specs.declared.keys.Role.TheVariants as role

-- the bytes that are kept of keys that are read from the last to the first, with this many erasures
-- outstanding
abbrev pub kept_backwards : ℕ → List Role → List ℕ
kept_backwards erasures [] = []
kept_backwards erasures (role.Kill ∷ before) = []
kept_backwards erasures (role.Erase ∷ before) = kept_backwards (suc erasures) before
kept_backwards zero (role.Ordinary byte ∷ before) = kept_backwards zero before ++ byte ∷ []
kept_backwards (suc erasures) (role.Ordinary byte ∷ before) = kept_backwards erasures before
kept_backwards erasures (_ ∷ before) = kept_backwards erasures before

-- the bytes that are kept of a piece, which has no closing key
abbrev pub kept_bytes : List Role → List ℕ
kept_bytes piece = kept_backwards 0 (reverse piece)
