-- Each text that keys give has at most as many bytes as the limit.
use Rattle.std.proofs.Common.{◌≡◌, ◌≤◌, ◌+◌, ℕ, Bool, true, false, List, [], ◌∷◌, ◌++◌, length, refl, subst, sym, if◌then◌else◌, arith, length-append}
use Rattle.std.proofs.lemmas.List.Elements.{All-nil, All-cons, All-append, All-same}
use Rattle.std.specs.Prelude.{All}
use Rattle.tn_discipline.specs.{Admitted.is_dropped, Entries.{HasAtMost, line_of, entries_of, half_of}, Limits.max_counted, declared.keys.Role.Role}
use Rattle.tn_discipline.specs.{Steps.{gain_after, gain_next, gain_all, half_next}, declared.reads.Entry.Entry}
use Rattle.tn_discipline.specs.declared.keys.Role.TheVariants as role
use Rattle.tn_discipline.specs.declared.reads.Entry.TheVariants as entry
use Rattle.tn_discipline.proofs.lemmas.Histories.{half-next, half_of-fits, entries-all}

module _ (limit : ℕ) (some : 1 ≤ limit) where
  line_fits : (bytes : List ℕ) → length bytes ≤ limit → HasAtMost limit (line_of bytes)
  line_fits [] few = tt
  line_fits (byte ∷ bytes) few = few

  alone : (e : Entry) → HasAtMost limit e → All (HasAtMost limit) (e ∷ [])
  alone e fits = All-cons (HasAtMost limit) e [] fits (All-nil (HasAtMost limit))

  closed_fits : (half : List ℕ) (byte : ℕ) → length half ≤ max_counted limit → All (HasAtMost limit) (line_of (half ++ byte ∷ []) ∷ [])
  closed_fits half byte few =
      alone (line_of (half ++ byte ∷ [])) (line_fits (half ++ byte ∷ []) (omega (arith, length-append half (byte ∷ []), some, few)))

  gain_fits : (half : List ℕ) (r : Role) → length half ≤ max_counted limit → All (HasAtMost limit) (gain_after half r)
  gain_fits half (role.Signal sig) few = alone (entry.Signal sig) tt
  gain_fits half role.Nl few = closed_fits half 10 few
  gain_fits half (role.Eol byte) few = closed_fits half byte few
  gain_fits half (role.Eol2 byte) few = closed_fits half byte few
  gain_fits half role.Eof few = alone (line_of half) (line_fits half (omega (arith, few)))
  gain_fits half _ few = All-nil (HasAtMost limit)

  fits_unless : (dropped : Bool) (half : List ℕ) (r : Role) → length half ≤ max_counted limit
      → All (HasAtMost limit) (if dropped then [] else gain_after half r)
  fits_unless true half r few = All-nil (HasAtMost limit)
  fits_unless false half r few = gain_fits half r few

  gains_fit : (history roles : List Role) → All (HasAtMost limit) (gain_all limit (half_of limit history) roles)
  gains_fit history [] = All-nil (HasAtMost limit)
  gains_fit history (r ∷ roles) =
      let half : List ℕ = half_of limit history in
      All-append (HasAtMost limit) (gain_next limit half r) (gain_all limit (half_next limit half r) roles)
      (fits_unless (is_dropped limit (length half) r) half r (half_of-fits limit history))
      (subst (λ (x : List ℕ). All (HasAtMost limit) (gain_all limit x roles)) (half-next limit history r) (gains_fit (history ++ r ∷ []) roles))

  pub texts_fit : (roles : List Role) → All (HasAtMost limit) (entries_of limit roles)
  texts_fit roles = All-same (HasAtMost limit) (entries_of limit roles) (gain_all limit [] roles) (entries-all limit [] roles) (gains_fit [] roles)
