-- The facts about a sink that an end gets: a fact of each call holds of all, and what each call keeps is
-- kept.
use Rattle.std.proofs.{Common.{◌≡◌, ℕ, List, [], ◌∷◌, ◌++◌, Result, Ok, Err, OnOk, IsErrOf, refl, sym, ◌∙◌, ap, subst}, lemmas.Grind.flat_map-append}
use Rattle.tn_nvt.specs.{declared.{decoding.NvtFault.{NvtFault, TheVariants.{Memory, Failed, Refused}}, items.Item.Item}, Feeding.DecoderState}
use Rattle.tn_nvt.specs.Sinks.{all_of, calls_of, TakesEach, FeedsTo, StopsAtSink, StopsForMemory}

module _ {S : Type 0} (takes gives_up : S → List Item → S → Type 0) where
  -- a relation that no call, one call and calls one after another give, all of them give
  pub taken_all : (R : S → List Item → S → Type 0) → ((a : S) → R a [] a)
      → ((a b c : S) (xs ys : List Item) → takes a xs b → R b ys c → R a (xs ++ ys) c)
      → (a b : S) (calls : List (List Item)) → TakesEach takes a calls b → R a (all_of calls) b
  taken_all R none more a b [] h = subst (R a []) h (none a)
  taken_all R none more a b (call ∷ calls) h = more a h.0 b call (all_of calls) h.1 (taken_all R none more h.0 b calls h.2)

  -- the items that a refused front of a piece adds: what was taken before, what was refused, and what was
  -- never seen
  pub refused_items : (old : DecoderState) (piece : List ℕ) (a b : S) (r : StopsAtSink takes gives_up old piece a b)
      → all_of (calls_of r.parts) ≡ all_of r.done ++ (r.left ++ all_of r.unseen)
  refused_items old piece a b r = ap all_of r.calls ∙ flat_map-append (λ call. call) r.done (r.left ∷ r.unseen)

  -- whatever the decoder answered, what each call keeps is kept
  pub kept_by_all : (K : S → S → Type 0) → ((a : S) → K a a) → ((a b c : S) → K a b → K b c → K a c)
      → ((a b : S) (xs : List Item) → takes a xs b → K a b)
      → ((a b : S) (xs : List Item) → gives_up a xs b → K a b)
      → (r : Result (Unit {0}) NvtFault) (old new : DecoderState) (piece : List ℕ) (a b : S)
      → OnOk r (FeedsTo takes old piece a b new) → (IsErrOf r Refused → StopsAtSink takes gives_up old piece a b)
      → (IsErrOf r Memory → StopsForMemory takes old piece a b)
      → (IsErrOf r Failed → b ≡ a) → K a b
  kept_by_all K same then one stop (Ok unit) old new piece a b ok refused memory failed =
      taken_all (λ x _ y. K x y) same (λ x y z xs ys t k. then x y z (one x y xs t) k) a b (calls_of ok.parts) ok.taken
  kept_by_all K same then one stop (Err Refused) old new piece a b ok refused memory failed =
      let r = refused refl in
      then a r.middle b (taken_all (λ x _ y. K x y) same (λ x y z xs ys t k. then x y z (one x y xs t) k) a r.middle r.done r.taken)
      (stop r.middle b r.left r.given_up)
  kept_by_all K same then one stop (Err Memory) old new piece a b ok refused memory failed =
      let w = memory refl in
      taken_all (λ x _ y. K x y) same (λ x y z xs ys t k. then x y z (one x y xs t) k) a b (calls_of w.parts) w.taken
  kept_by_all K same then one stop (Err Failed) old new piece a b ok refused memory failed = subst (K a) (sym (failed refl)) (same a)
