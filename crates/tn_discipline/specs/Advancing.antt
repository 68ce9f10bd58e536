-- The effect of a line discipline, stated for every list of keys that may have come before.
use Rattle.std.specs.Prelude.{◌≡◌, ◌↔◌, ◌<◌, ◌≤◌, ℕ, List, ◌++◌, length}
use Rattle.tn_discipline.specs.{Admitted.admitted_roles, Entries.{entries_of, half_of}, HalfLine.HalfLine}
use Rattle.tn_discipline.specs.{Steps.{half_all, gain_all}, declared.{keys.Role.Role, reads.Entry.Entry}}
use Rattle.tn_discipline.specs.declared.half_line.Effect.{Effect, TheVariants.Dropped}

-- These keys leave this line: their half-typed line is the bytes that were handed on, and then those that are
-- held.
pub record LeadsTo (history : List Role) (line : HalfLine) : Type 0 where
  pub sent : List ℕ
  pub count : length sent ≡ line.ahead
  pub bytes : half_of line.limit history ≡ sent ++ line.held

-- If any keys left the old line, then with these keys they leave the new one, and give these entries more.
-- While bytes are ahead, a line is given in parts, and the record speaks only of the half-typed line.
pub record Advances (old : HalfLine) (roles : List Role) (gain : List Entry) (new : HalfLine) : Type 0 where
  pub half : (history : List Role) → LeadsTo history old → LeadsTo (history ++ roles) new
  pub entries : (history : List Role) → LeadsTo history old → old.ahead ≡ 0
      → entries_of old.limit (history ++ roles) ≡ entries_of old.limit history ++ gain
  pub ahead : new.ahead ≤ old.ahead
  pub limit : new.limit ≡ old.limit

-- Any keys that left the old line leave the new one.
abbrev pub KeepsHalf : HalfLine → HalfLine → Type 0
KeepsHalf old new = (history : List Role) → LeadsTo history old → LeadsTo history new

-- Any keys that leave a half-typed line of this length leave the line.
abbrev pub LeadsWhereLong : ℕ → ℕ → HalfLine → Type 0
LeadsWhereLong limit count line =
    (history : List Role) → length (half_of limit history) ≡ count → LeadsTo history line

-- The effect is Dropped exactly if these keys, after any keys that left the line, are not admitted.
abbrev pub DropsExactly : HalfLine → List Role → Effect → Type 0
DropsExactly line roles e =
    (history : List Role) → LeadsTo history line
    → (e ≡ Dropped)
    ↔ ((0 < length roles)
    × (admitted_roles line.limit (history ++ roles) ≡ admitted_roles line.limit history))

-- `Advances` in terms of only the old line: for any bytes that were handed on, these keys leave as many as
-- are ahead in the new line, followed by those that it holds.
pub record AdvancesFromLine (old : HalfLine) (roles : List Role) (gain : List Entry)
    (new : HalfLine) : Type 0 where
  pub half : (sent : List ℕ) → length sent ≡ old.ahead
      → (rest : List ℕ) × (length rest ≡ new.ahead)
      × (half_all old.limit (sent ++ old.held) roles ≡ rest ++ new.held)
  pub entries : old.ahead ≡ 0 → gain ≡ gain_all old.limit old.held roles
  pub ahead : new.ahead ≤ old.ahead
  pub limit : new.limit ≡ old.limit
