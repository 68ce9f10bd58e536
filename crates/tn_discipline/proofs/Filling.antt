-- A table that is filled, role by role.
use Rattle.std.proofs.{Common.{◌≡◌, ℕ, ◌+◌, ◌<◌, List, [], ◌∷◌, ◌++◌, length, get_or, inl, inr, arith, ◌∙◌}, lemmas.List.get_or_push, Math.ListN.get_or-append}
use Rattle.std.proofs.lemmas.Bool.Decides.{eqb_tells}
use Rattle.tn_discipline.specs.{Keys.role_of_key, declared.{termios.Settings.Settings, keys.Role.Role}}

-- the first roles are those of the first keys
abbrev pub AgreesTo : Settings → List Role → ℕ → Type 0
AgreesTo settings table count = (k : ℕ) (d : Role) → k < count → get_or table k d ≡ role_of_key settings k

pub agrees_more : (settings : Settings) (table : List Role) (key : ℕ) (r : Role) → length table ≡ key → AgreesTo settings table key
    → r ≡ role_of_key settings key → AgreesTo settings (table ++ r ∷ []) (key + 1)
agrees_more settings table key r count before here k d lt =
    elim (eqb_tells k key) [
      | inl e ↦ rw e.1 (get_or_push table r d key count ∙ here)
      | inr e ↦ let low : k < key = omega (arith, lt, e.1) in get_or-append table (r ∷ []) d k (rw count low) ∙ before k d low
    ]
