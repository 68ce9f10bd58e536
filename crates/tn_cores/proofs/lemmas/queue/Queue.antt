-- Each step of a channel in which one puts and one takes keeps its rule.
use Rattle.std.proofs.Common.{◌≡◌, ◌⊎◌, ℕ, Bool, true, false, List, [], ◌∷◌, ◌++◌, Option, Some, None, refl, sym, ap, ◌∙◌, inl, inr, append_assoc}
use Rattle.crossbeam_channel.specs.Fifo.{Pushes, Pops, Forks, Merges, Learns}
use Rattle.tn_cores.specs.{queue.Queue.{slot, InOrder, more, put_more, taken_more, no_hand, both_hands, one_of, joined_hands, LeftOver}, streams.Seats.Kept}
use Rattle.tn_cores.specs.declared.queue.Hand.{Hand}
use Rattle.tn_cores.proofs.lemmas.streams.Seats.{or_held, same_held, begins, learns, moves, Cuts, forks, merges}

is_some : {A : Type 0} (a b : A) → Some a ≡ Some b → a ≡ b
is_some a b e = cc

one_of_both : {A : Type 0} (a b : Option A) (l : A) → one_of a b ≡ Some l → (a ≡ Some l) ⊎ (b ≡ Some l)
one_of_both (Some k) b l e = inl e
one_of_both None b l e = inr e

module _ {T : Type 0} where
  pub starts : Kept (slot {T = T}) InOrder [] (both_hands ∷ [])
  starts = begins slot InOrder both_hands empty refl
    where
      empty : (r : Bool) (l : List T) → slot both_hands r ≡ Some l → l ≡ []
      empty true l e = sym (is_some _ _ e)
      empty false l e = sym (is_some _ _ e)

  pub puts : (n pass : ℕ) (v : Hand T) (x : T) (l : List T) → v.put ≡ Some l → Pushes (Kept slot InOrder) n pass v x (λ w. w ≡ put_more v x)
  puts n pass v x l mine items views room kept at = (
    put_more v x,
    moves slot InOrder items (items ++ x ∷ []) views pass v (put_more v x) roles weave kept at,
    refl,
  )
    where
      roles : (r : Bool) (k : List T) → slot (put_more v x) r ≡ Some k → (j : List T) × (slot v r ≡ Some j)
      roles true k e = (l, mine)
      roles false k e = (k, e)

      weave : (held : Bool → List T) → ((r : Bool) (k : List T) → slot v r ≡ Some k → k ≡ held r) → InOrder items held
          → InOrder (items ++ x ∷ []) (λ r. or_held (slot (put_more v x) r) (held r))
      weave held agrees woven =
          let new : or_held (more v.put x) (held true) ≡ held true ++ x ∷ [] =
          ap (λ (o : Option (List T)). or_held (more o x) (held true)) mine ∙ ap (λ (k : List T). k ++ x ∷ []) (agrees true l mine) in
          let old : or_held v.taken (held false) ≡ held false = same_held v.taken (held false) (agrees false) in
          ap (λ (k : List T). k ++ (items ++ x ∷ [])) old ∙ sym (append_assoc (held false) items (x ∷ [])) ∙ ap (λ (k : List T). k ++ x ∷ []) woven ∙ sym new

  pub takes : (pass : ℕ) (v : Hand T) (l : List T) → v.taken ≡ Some l → Pops (Kept slot InOrder) pass v (λ x w. w ≡ taken_more v x)
  takes pass v l mine x items views kept at = (taken_more v x, moves slot InOrder (x ∷ items) items views pass v (taken_more v x) roles weave kept at, refl)
    where
      roles : (r : Bool) (k : List T) → slot (taken_more v x) r ≡ Some k → (j : List T) × (slot v r ≡ Some j)
      roles true k e = (k, e)
      roles false k e = (l, mine)

      weave : (held : Bool → List T) → ((r : Bool) (k : List T) → slot v r ≡ Some k → k ≡ held r) → InOrder (x ∷ items) held
          → InOrder items (λ r. or_held (slot (taken_more v x) r) (held r))
      weave held agrees woven =
          let new : or_held (more v.taken x) (held false) ≡ held false ++ x ∷ [] =
          ap (λ (o : Option (List T)). or_held (more o x) (held false)) mine ∙ ap (λ (k : List T). k ++ x ∷ []) (agrees false l mine) in
          let old : or_held v.put (held true) ≡ held true = same_held v.put (held true) (agrees true) in
          ap (λ (k : List T). k ++ items) new ∙ append_assoc (held false) (x ∷ []) items ∙ woven ∙ sym old

  pub leaves : (pass : ℕ) (v : Hand T) → Learns (Kept slot InOrder) pass v (LeftOver v)
  leaves pass v items views kept at p t put taken =
      let all = learns slot InOrder items views pass v kept at in
      ap (λ (k : List T). k ++ items) (all.2 false t taken) ∙ all.1 ∙ sym (all.2 true p put)

  pub cut_taker : (pass : ℕ) (v : Hand T) → Forks (Kept slot InOrder) pass v (record v { taken = None }) (record no_hand { taken = v.taken })
  cut_taker pass v items views kept at = forks slot InOrder pass v (record v { taken = None }) (record no_hand { taken = v.taken }) cuts items views kept at
    where
      cuts : Cuts slot InOrder v (record v { taken = None }) (record no_hand { taken = v.taken })
      cuts true = inl (refl, refl)
      cuts false = inr (refl, refl)

  pub joins : (pass : ℕ) (v : Hand T) (other : ℕ) (w : Hand T) → Merges (Kept slot InOrder) pass v other w (joined_hands v w) no_hand
  joins pass v other w items views kept at apart at' = merges slot InOrder pass v other w (joined_hands v w) no_hand joined empty items views kept at apart at'
    where
      joined : (r : Bool) (l : List T) → slot (joined_hands v w) r ≡ Some l → (slot v r ≡ Some l) ⊎ (slot w r ≡ Some l)
      joined true l e = one_of_both v.put w.put l e
      joined false l e = one_of_both v.taken w.taken l e

      empty : (r : Bool) → slot {T = T} no_hand r ≡ None
      empty true = refl
      empty false = refl
