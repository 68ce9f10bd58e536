-- The half-typed line and the entries, key by key. `laws::one_more_role` ties this to the whole lists.
use Rattle.std.specs.Prelude.{ℕ, ◌-◌, List, [], ◌∷◌, ◌++◌, length, take, if◌then◌else◌}
use Rattle.tn_discipline.specs.{Admitted.is_dropped, Entries.line_of, declared.reads.Entry.Entry}
use Rattle.tn_discipline.specs.declared.keys.Role.{Role}
use Rattle.tn_discipline.specs.declared.reads.Entry.TheVariants as entry
use Rattle.tn_discipline.specs.declared.keys.Role.TheVariants as role

-- a list without its last element
abbrev pub front : List ℕ → List ℕ
front xs = take (length xs - 1) xs

-- the half-typed line after one more key, if it is admitted: KILL and the keys that close a line leave
-- nothing
abbrev pub half_after : List ℕ → Role → List ℕ
half_after half (role.Ordinary byte) = half ++ byte ∷ []
half_after half role.Erase = front half
half_after half (role.Signal sig) = half
half_after half role.Ignored = half
half_after half _ = []

-- the entries that one more key gives after this half-typed line, if it is admitted
abbrev pub gain_after : List ℕ → Role → List Entry
gain_after half (role.Signal sig) = entry.Signal sig ∷ []
gain_after half role.Nl = line_of (half ++ 10 ∷ []) ∷ []
gain_after half (role.Eol byte) = line_of (half ++ byte ∷ []) ∷ []
gain_after half (role.Eol2 byte) = line_of (half ++ byte ∷ []) ∷ []
gain_after half role.Eof = line_of half ∷ []
gain_after half _ = []

-- the half-typed line after one more key, admitted or not
abbrev pub half_next : ℕ → List ℕ → Role → List ℕ
half_next limit half r = if is_dropped limit (length half) r then half else half_after half r

-- the entries that one more key gives, admitted or not
abbrev pub gain_next : ℕ → List ℕ → Role → List Entry
gain_next limit half r = if is_dropped limit (length half) r then [] else gain_after half r

-- the half-typed line after these keys
abbrev pub half_all : ℕ → List ℕ → List Role → List ℕ
half_all limit half [] = half
half_all limit half (r ∷ roles) = half_all limit (half_next limit half r) roles

-- the entries that these keys give
abbrev pub gain_all : ℕ → List ℕ → List Role → List Entry
gain_all limit half [] = []
gain_all limit half (r ∷ roles) = gain_next limit half r ++ gain_all limit (half_next limit half r) roles
