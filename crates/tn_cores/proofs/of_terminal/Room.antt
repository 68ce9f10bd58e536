-- The number of bytes of the lines among entries, one entry after another.
use Rattle.std.proofs.Common.{◌≡◌, ◌+◌, ◌-◌, ◌≤◌, ◌<◌, ℕ, Option, Some, None, List, [], ◌∷◌, length, drop, refl, ⊎_elim, ap, ◌∙◌, arith}
use Rattle.std.proofs.lemmas.{List.{drop_more, at_drop_all}, Option.{slice_get_within, get_or_from_slice_get, slice_get_cases}}
use Rattle.std.specs.List.{slice_get}
use Rattle.tn_discipline.specs.declared.reads.Entry.{Entry, TheVariants.{Text, Eof, Signal}}
use Rattle.tn_cores.specs.server.Welcoming.{line_bytes}

-- the first entry, and the others
line_bytes-cons : (entry : Entry) (entries : List Entry) → line_bytes (entry ∷ entries) ≡ line_bytes (entry ∷ []) + line_bytes entries
unfolding line_bytes
line_bytes-cons (Text line) entries = omega arith
line_bytes-cons Eof entries = omega arith
line_bytes-cons (Signal sig) entries = omega arith

-- a line counts as its bytes
pub line_bytes-line : (line : List ℕ) → length line ≡ line_bytes (Text line ∷ [])
unfolding line_bytes
line_bytes-line line = omega arith

line_bytes-nil : line_bytes [] ≡ 0
unfolding line_bytes
line_bytes-nil = refl

-- the entries from this one on count as its bytes and those of the later ones
pub line_bytes-next : (entries : List Entry) (i : ℕ) (entry : Entry) → slice_get entries i ≡ Some entry
    → line_bytes (drop i entries) ≡ line_bytes (entry ∷ []) + line_bytes (drop (i + 1) entries)
line_bytes-next entries i entry at =
    let e = drop_more entries i entry (slice_get_within entries i entry at) in
    let f = get_or_from_slice_get entries i entry entry at in
    ap line_bytes e ∙ ap (λ (x : Entry). line_bytes (x ∷ drop (i + 1) entries)) f ∙ line_bytes-cons entry (drop (i + 1) entries)

-- past the last entry there is none
pub line_bytes-past : (entries : List Entry) (i : ℕ) → length entries ≤ i → line_bytes (drop i entries) ≡ 0
line_bytes-past entries i past = at_drop_all line_bytes entries i past ∙ line_bytes-nil

is_some : (found : Option Entry) (entry : Entry) → found ≡ Some entry → found ≡ None → ⊥
is_some found entry e f = cc

-- an index without an entry is past the last one
pub none-past : (entries : List Entry) (i : ℕ) → slice_get entries i ≡ None → length entries ≤ i
none-past entries i none =
    ⊎_elim (λ p. absurd (is_some (slice_get entries i) p.0 p.2 none)) (λ p. p.0) (slice_get_cases entries i).1

-- the rest of the room once the lines before an entry were taken off
abbrev pub IsLeft : List Entry → ℕ → ℕ → Type 0
IsLeft entries room i = room + line_bytes entries ≡ 60000 + line_bytes (drop i entries)

-- all lines were taken off
pub all_fit : (entries : List Entry) (room i : ℕ) → IsLeft entries room i → length entries ≤ i → line_bytes entries ≤ 60000
all_fit entries room i left past = let none = line_bytes-past entries i past in omega (arith, left, none)

-- all lines were taken off, since there is no other entry
pub all_seen : (entries : List Entry) (room i : ℕ) → IsLeft entries room i → slice_get entries i ≡ None → line_bytes entries ≤ 60000
all_seen entries room i left none = all_fit entries room i left (none-past entries i none)

-- the line of the next entry has more bytes than are left
pub one_too_long : (entries : List Entry) (room i bytes : ℕ) (entry : Entry) → IsLeft entries room i → slice_get entries i ≡ Some entry
    → bytes ≡ line_bytes (entry ∷ []) → room < bytes → 60000 < line_bytes entries
one_too_long entries room i bytes entry left at count long = let next = line_bytes-next entries i entry at in omega (arith, left, count, long, next)

-- the line of the next entry is taken off the room that is left
pub next_left : (entries : List Entry) (room i bytes : ℕ) (entry : Entry) → IsLeft entries room i → slice_get entries i ≡ Some entry
    → bytes ≡ line_bytes (entry ∷ []) → bytes ≤ room → IsLeft entries (room - bytes) (i + 1)
next_left entries room i bytes entry left at count fits = let next = line_bytes-next entries i entry at in omega (arith, left, count, fits, next)
