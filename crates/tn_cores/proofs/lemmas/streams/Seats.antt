-- The moves that keep a rule of seats.
use Rattle.std.proofs.Common.{◌≡◌, ◌≢◌, ◌⊎◌, ℕ, zero, suc, List, [], ◌∷◌, ◌++◌, length, set, Option, Some, None, refl, sym, ap, ◌∙◌, inl, inr, ⊎_elim}
use mathlib.Core.Option.{some, some-ne-none, some-injective}
use lib.ListN.{get_elem?}
use Rattle.atomic_table.proofs.Lists.{at_set}
use Rattle.tn_cores.specs.streams.Seats.{Fits, Kept}

-- the new list, or as before
abbrev pub or_held : {A : Type 0} → Option A → A → A
or_held (Some l) k = l
or_held None k = k

abbrev pub pick : {A : Type 0} → Option A → ℕ → ℕ → ℕ
pick (Some l) a b = a
pick None a b = b

module _ {A : Type 0} where
  kept_held : (o : Option A) (k : A) → ((l : A) → o ≡ Some l → ⊥) → k ≡ or_held o k
  kept_held (Some l) k never = absurd (never l refl)
  kept_held None k never = refl

  pub same_held : (o : Option A) (k : A) → ((l : A) → o ≡ Some l → l ≡ k) → or_held o k ≡ k
  same_held (Some l) k is = is l refl
  same_held None k is = refl

  pick_kept : (o : Option A) (a b : ℕ) → ((l : A) → o ≡ Some l → ⊥) → b ≡ pick o a b
  pick_kept (Some l) a b never = absurd (never l refl)
  pick_kept None a b never = refl

  pick_same : (o : Option A) (a b : ℕ) → a ≡ b → a ≡ pick o a b
  pick_same (Some l) a b e = refl
  pick_same None a b e = e

  no_some : (o : Option A) (l : A) → o ≡ None → o ≡ Some l → ⊥
  no_some o l n s = absurd (cc)

  at_end : (l : List A) (a b : A) (j : ℕ) → get_elem? (l ++ a ∷ []) j ≡ some b → (get_elem? l j ≡ some b) ⊎ ((j ≡ length l) × (a ≡ b))
  at_end [] a b zero e = inr (refl, some-injective a b e)
  at_end [] a b (suc j) e = absurd (some-ne-none b (sym e))
  at_end (x ∷ xs) a b zero e = inl e
  at_end (x ∷ xs) a b (suc j) e = ⊎_elim (λ t. inl t) (λ t. inr (ap suc t.0, t.1)) (at_end xs a b j e)

module _ {T V Role : Type 0} (share : V → Role → Option (List T)) (Woven : List T → (Role → List T) → Type 0) where
  pub begins : (v : V) → ((r : Role) (l : List T) → share v r ≡ Some l → l ≡ []) → Woven [] (λ r. []) → Kept share Woven [] (v ∷ [])
  begins v empty woven = ((λ r. 0), (λ r. []), woven, one)
    where
      one : (pass : ℕ) (u : V) → get_elem? (v ∷ []) pass ≡ some u → Fits share Woven (λ r. 0) (λ r. []) pass u
      one zero u e r l is = (refl, empty r l (ap (λ (y : V). share y r) (some-injective v u e) ∙ is))
      one (suc j) u e r l is = absurd (some-ne-none u (sym e))

  -- the facts that a pass gets
  pub learns : (items : List T) (views : List V) (pass : ℕ) (v : V) → Kept share Woven items views → get_elem? views pass ≡ some v → (held : Role → List T)
      × Woven items held × ((r : Role) (l : List T) → share v r ≡ Some l → l ≡ held r)
  learns items views pass v kept at = (kept.1, kept.2, λ r l is. (kept.3 pass v at r l is).1)

  -- the lists of one pass change, and its roles stay
  pub moves : (items later : List T) (views : List V) (pass : ℕ) (v w : V)
      → ((r : Role) (l : List T) → share w r ≡ Some l → (k : List T) × (share v r ≡ Some k))
      → ((held : Role → List T) → ((r : Role) (l : List T) → share v r ≡ Some l → l ≡ held r) → Woven items held
      → Woven later (λ r. or_held (share w r) (held r)))
      → Kept share Woven items views → get_elem? views pass ≡ some v → Kept share Woven later (set views pass w)
  moves items later views pass v w roles weave kept at =
      let seat : Role → ℕ = kept.0 in
      let held : Role → List T = kept.1 in
      let mine : Fits share Woven seat held pass v = kept.3 pass v at in (
        seat,
        λ r. or_held (share w r) (held r),
        weave held (λ r l e. (mine r l e).1) kept.2,
        λ j u e.
            ⊎_elim
            (λ (x : (j ≡ pass) × (w ≡ u)). λ r l is.
            let here : share w r ≡ Some l = ap (λ (y : V). share y r) x.1 ∙ is in
            let k : (k : List T) × (share v r ≡ Some k) = roles r l here in
            (x.0 ∙ (mine r k.0 k.1).0, sym (ap (λ (o : Option (List T)). or_held o (held r)) here)))
            (λ (x : (j ≢ pass) × (get_elem? views j ≡ some u)). λ r l is.
            let old : (j ≡ seat r) × (l ≡ held r) = kept.3 j u x.1 r l is in (
              old.0,
              old.1 ∙ kept_held (share w r) (held r) (λ l' e'. let k : (k : List T) × (share v r ≡ Some k) = roles r l' e'
                  in x.0 (old.0 ∙ sym (mine r k.0 k.1).0)),
            ))
            (at_set views pass j w u e),
      )

  -- each role of a pass goes to one of two
  abbrev pub Cuts : V → V → V → Type 0
  Cuts v left right = (r : Role) → ((share left r ≡ share v r) × (share right r ≡ None)) ⊎ ((share left r ≡ None) × (share right r ≡ share v r))

  cut_left : (v left right : V) → Cuts v left right → (r : Role) (l : List T) → share left r ≡ Some l → (share v r ≡ Some l) × (share right r ≡ None)
  cut_left v left right cuts r l is = ⊎_elim (λ (x : (share left r ≡ share v r) × (share right r ≡ None)). (sym x.0 ∙ is, x.1))
      (λ (x : (share left r ≡ None) × (share right r ≡ share v r)). absurd (no_some (share left r) l x.0 is)) (cuts r)

  cut_right : (v left right : V) → Cuts v left right → (r : Role) (l : List T) → share right r ≡ Some l → share v r ≡ Some l
  cut_right v left right cuts r l is = ⊎_elim (λ (x : (share left r ≡ share v r) × (share right r ≡ None)). absurd (no_some (share right r) l x.1 is))
      (λ (x : (share left r ≡ None) × (share right r ≡ share v r)). sym x.1 ∙ is) (cuts r)

  pub forks : (pass : ℕ) (v left right : V) → Cuts v left right → (items : List T) (views : List V) → Kept share Woven items views
      → get_elem? views pass ≡ some v → Kept share Woven items (set views pass left ++ right ∷ [])
  forks pass v left right cuts items views kept at =
      let seat : Role → ℕ = kept.0 in
      let held : Role → List T = kept.1 in
      let mine : Fits share Woven seat held pass v = kept.3 pass v at in
      let new : ℕ = length (set views pass left) in (
        λ r. pick (share right r) new (seat r),
        held,
        kept.2,
        λ j u e.
            ⊎_elim
            (λ (x : get_elem? (set views pass left) j ≡ some u).
            ⊎_elim
            (λ (y : (j ≡ pass) × (left ≡ u)). λ r l is.
            let here = cut_left v left right cuts r l (ap (λ (z : V). share z r) y.1 ∙ is) in
            let old = mine r l here.0 in
            (y.0 ∙ old.0 ∙ pick_kept (share right r) new (seat r) (λ k some_k. no_some (share right r) k here.1 some_k), old.1))
            (λ (y : (j ≢ pass) × (get_elem? views j ≡ some u)). λ r l is.
            let old : (j ≡ seat r) × (l ≡ held r) = kept.3 j u y.1 r l is in
            (old.0 ∙ pick_kept (share right r) new (seat r) (λ k some_k. y.0 (old.0 ∙ sym (mine r k (cut_right v left right cuts r k some_k)).0)), old.1))
            (at_set views pass j left u x))
            (λ (x : (j ≡ new) × (right ≡ u)). λ r l is.
            let here : share right r ≡ Some l = ap (λ (z : V). share z r) x.1 ∙ is in
            (x.0 ∙ sym (ap (λ (o : Option (List T)). pick o new (seat r)) here), (mine r l (cut_right v left right cuts r l here)).1))
            (at_end (set views pass left) right u j e),
      )

  pub merges : (pass : ℕ) (v : V) (other : ℕ) (w both spent : V)
      → ((r : Role) (l : List T) → share both r ≡ Some l → (share v r ≡ Some l) ⊎ (share w r ≡ Some l))
      → ((r : Role) → share spent r ≡ None)
      → (items : List T) (views : List V) → Kept share Woven items views → get_elem? views pass ≡ some v → ¬ (other ≡ pass)
      → get_elem? (set views pass both) other ≡ some w
      → Kept share Woven items (set (set views pass both) other spent)
  merges pass v other w both spent joined empty items views kept at apart at' =
      let seat : Role → ℕ = kept.0 in
      let held : Role → List T = kept.1 in
      let mine : Fits share Woven seat held pass v = kept.3 pass v at in
      let was : get_elem? views other ≡ some w = ⊎_elim (λ (x : (other ≡ pass) × (both ≡ w)). absurd (apart x.0))
      (λ (x : (other ≢ pass) × (get_elem? views other ≡ some w)). x.1) (at_set views pass other both w at') in
      let theirs : Fits share Woven seat held other w = kept.3 other w was in (
        λ r. pick (share w r) pass (seat r),
        held,
        kept.2,
        λ j u e.
            ⊎_elim
            (λ (x : (j ≡ other) × (spent ≡ u)). λ r l is. absurd (no_some (share spent r) l (empty r) (ap (λ (z : V). share z r) x.1 ∙ is)))
            (λ (x : (j ≢ other) × (get_elem? (set views pass both) j ≡ some u)).
            ⊎_elim
            (λ (y : (j ≡ pass) × (both ≡ u)). λ r l is.
            ⊎_elim
            (λ (z : share v r ≡ Some l). (y.0 ∙ pick_same (share w r) pass (seat r) (mine r l z).0, (mine r l z).1))
            (λ (z : share w r ≡ Some l). (y.0 ∙ sym (ap (λ (o : Option (List T)). pick o pass (seat r)) z), (theirs r l z).1))
            (joined r l (ap (λ (z : V). share z r) y.1 ∙ is)))
            (λ (y : (j ≢ pass) × (get_elem? views j ≡ some u)). λ r l is.
            let old : (j ≡ seat r) × (l ≡ held r) = kept.3 j u y.1 r l is in
            (old.0 ∙ pick_kept (share w r) pass (seat r) (λ k some_k. x.0 (old.0 ∙ sym (theirs r k some_k).0)), old.1))
            (at_set views pass j both u x.1))
            (at_set (set views pass both) other j spent u e),
      )
