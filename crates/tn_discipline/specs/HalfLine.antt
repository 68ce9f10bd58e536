-- The half-typed line in two parts: what was handed on, and what is held.
use Rattle.std.specs.Prelude.{◌≡◌, ℕ, ◌+◌, ◌-◌, ◌==◌, nat_lt, Bool, List, [], ◌∷◌, ◌++◌, length}
use Rattle.std.specs.Prelude.{if◌then◌else◌}
use Rattle.tn_discipline.specs.{Entries.line_of, Limits.max_counted, Steps.front, declared.keys.Role.Role}
use Rattle.tn_discipline.specs.declared.{reads.Entry.Entry, half_line.Effect.Effect}
use Rattle.tn_discipline.specs.declared.keys.Role.TheVariants as role
use Rattle.tn_discipline.specs.declared.reads.Entry.TheVariants as entry
use Rattle.tn_discipline.specs.declared.half_line.Effect.TheVariants as effect

-- the bytes that are held, how many bytes before them were handed on, and how many bytes the line has at most
-- with its closing byte
pub record HalfLine : Type 0 where
  pub held : List ℕ
  pub ahead : ℕ
  pub limit : ℕ

-- nothing is held, and nothing was handed on
abbrev pub empty_line : ℕ → HalfLine
empty_line limit = record { held = []; ahead = 0; limit = limit }

-- the number of bytes of a half-typed line, ahead or held
abbrev pub line_length : HalfLine → ℕ
line_length line = line.ahead + length line.held

-- the line has no room for one more byte before its closing one
abbrev pub is_full : HalfLine → Bool
is_full line = line_length line == max_counted line.limit

-- some byte is held
abbrev pub has_held : HalfLine → Bool
has_held line = nat_lt 0 (length line.held)

-- some byte is ahead
abbrev pub has_ahead : HalfLine → Bool
has_ahead line = nat_lt 0 line.ahead

-- the effect of a key of this role
abbrev pub effect_of : HalfLine → Role → Effect
effect_of line role.Ignored = effect.Nothing
effect_of line (role.Ordinary byte) = if is_full line then effect.Dropped else effect.Kept
effect_of line role.Erase =
    if has_held line then effect.Erased else (if has_ahead line then effect.ErasedAhead else effect.Nothing)
effect_of line role.Kill = effect.Killed line.ahead
effect_of line (role.Signal sig) = effect.Gives (entry.Signal sig)
effect_of line role.Nl = effect.Gives (line_of (line.held ++ 10 ∷ []))
effect_of line (role.Eol byte) = effect.Gives (line_of (line.held ++ byte ∷ []))
effect_of line (role.Eol2 byte) = effect.Gives (line_of (line.held ++ byte ∷ []))
effect_of line role.Eof = effect.Gives (line_of line.held)

-- the line after an ordinary byte
abbrev pub line_kept : HalfLine → ℕ → HalfLine
line_kept line byte = if is_full line then line else record line { held = line.held ++ byte ∷ [] }

-- the line after an erasure, which takes a held byte, or else one that was handed on
abbrev pub line_erased : HalfLine → HalfLine
line_erased line =
    if has_held line then record line { held = front line.held }
    else record line { held = []; ahead = line.ahead - 1 }

-- the line once all that is held was handed on
abbrev pub line_released : HalfLine → HalfLine
line_released line = record line { held = []; ahead = line_length line }

-- a line of which this number of bytes was handed on, and none is held
abbrev pub line_resumed : ℕ → ℕ → HalfLine
line_resumed limit ahead = record { held = []; ahead = ahead; limit = limit }

-- the line after a key of this role: KILL and the keys that close the line leave nothing of it
abbrev pub line_after : HalfLine → Role → HalfLine
line_after line role.Ignored = line
line_after line (role.Ordinary byte) = line_kept line byte
line_after line role.Erase = line_erased line
line_after line (role.Signal sig) = line
line_after line _ = empty_line line.limit

-- the entries that an effect gives
abbrev pub effect_entries : Effect → List Entry
effect_entries (effect.Gives e) = e ∷ []
effect_entries _ = []

-- a key of this role gives a text
abbrev pub GivesText : HalfLine → Role → Type 0
GivesText line r = (bytes : List ℕ) × (effect_of line r ≡ effect.Gives (entry.Text bytes))
