-- The steps that a core noted are those of its run's transcript.
use Rattle.std.proofs.Common.{◌≡◌, ◌⊎◌, inl, inr, ℕ, Bool, true, false, Some, List, [], ◌∷◌, ◌++◌, refl, sym, ap, ◌∙◌, subst, map, append_assoc, append-nil}
use Rattle.std.specs.List.{FoldsTo}
use Rattle.tn_session.proofs.lemmas.Transcribing.{prefix_trans}
use Rattle.tn_session.specs.{Notes.Note, Transcripts.{Exchange, IsExchange, IsStep, exchange_of, total}, declared.workers.mail.Mail.Mail}
use Rattle.tn_nvt.specs.Prefixes.{IsPrefixOf}

pub total-append : {M : Type 0} (ss ts : List (M × List ℕ)) → total (ss ++ ts) ≡ total ss ++ total ts
total-append [] ts = refl
total-append (s ∷ ss) ts = ap (λ (l : List ℕ). s.1 ++ l) (total-append ss ts) ∙ sym (append_assoc s.1 (total ss) (total ts))

pub total-push : {M : Type 0} (ss : List (M × List ℕ)) (s : M × List ℕ) → total (ss ++ s ∷ []) ≡ total ss ++ s.1
total-push ss s = total-append ss (s ∷ []) ∙ ap (λ (l : List ℕ). total ss ++ l) (append-nil s.1)

module _ {R M : Type 0} (turns : R → M → R → Type 0) (says : R → List ℕ) (is_over : R → Bool) (is_whole : M → Bool) where
  abbrev pub Steps : R → List (M × List ℕ) → R → Type 0
  Steps p ss q = FoldsTo (IsStep turns says is_over is_whole) p ss q

  -- once nothing has any effect, nothing is written
  pub nothing_more : (ss : List (M × List ℕ)) (p q : R) → is_over p ≡ true → Steps p ss q → total ss ≡ []
  nothing_more [] p q off r = refl
  nothing_more (s ∷ ss) p q off r = ap (λ (l : List ℕ). l ++ total ss) (r.1.idle off) ∙ nothing_more ss r.0 q (r.1.stays off) r.2

  -- the bytes written so far are those sent so far, or the first of them, and nothing has any effect any more
  abbrev pub IsUpTo : R → List ℕ → Type 0
  IsUpTo p by_now = IsPrefixOf by_now (says p) × ((by_now ≡ says p) ⊎ (is_over p ≡ true))

  begins : (p r : R) (s : M × List ℕ) (by_now : List ℕ) → IsStep turns says is_over is_whole p s r → IsPrefixOf by_now (says p)
      → ((by_now ≡ says p) ⊎ (is_over p ≡ true)) → IsPrefixOf (by_now ++ s.1) (says r)
  begins p r s by_now step up (inl e) = (step.rest, append_assoc by_now s.1 step.rest ∙ ap (λ (l : List ℕ). l ++ (s.1 ++ step.rest)) e ∙ sym step.said)
  begins p r s by_now step up (inr off) =
      let grows : IsPrefixOf (says p) (says r) = (s.1 ++ step.rest, sym step.said) in
      let P : List ℕ → Type 0 = λ l. IsPrefixOf l (says r) in
      subst P (sym (append-nil by_now) ∙ ap (λ (l : List ℕ). by_now ++ l) (sym (step.idle off))) (prefix_trans by_now (says p) (says r) up grows)

  ends : (p r : R) (s : M × List ℕ) (by_now : List ℕ) → IsStep turns says is_over is_whole p s r → ((by_now ≡ says p) ⊎ (is_over p ≡ true)) → (b : Bool)
      → is_whole s.0 ≡ b → (by_now ++ s.1 ≡ says r) ⊎ (is_over r ≡ true)
  ends p r s by_now step (inr off) b e = inr (step.stays off)
  ends p r s by_now step (inl whole) false e = inr (step.over e)
  ends p r s by_now step (inl whole) true e = inl (ap (λ (l : List ℕ). l ++ s.1) whole
      ∙ ap (λ (l : List ℕ). says p ++ l) (sym (append-nil s.1) ∙ ap (λ (l : List ℕ). s.1 ++ l) (sym (step.all e))) ∙ sym step.said)

  pub steps_on : (p r : R) (s : M × List ℕ) (by_now : List ℕ) → IsStep turns says is_over is_whole p s r → IsUpTo p by_now → IsUpTo r (by_now ++ s.1)
  steps_on p r s by_now step up = (begins p r s by_now step up.0 up.1, ends p r s by_now step up.1 (is_whole s.0) refl)

  -- all that was ever written, if nothing has any effect any more
  pub whole_by : (ss : List (M × List ℕ)) (p q : R) (written by_now : List ℕ) → Steps p ss q → written ≡ by_now ++ total ss
      → ((by_now ≡ says p) ⊎ (is_over p ≡ true)) → (by_now ≡ says p) ⊎ (by_now ≡ written)
  whole_by ss p q written by_now r is (inl e) = inl e
  whole_by ss p q written by_now r is (inr off) = inr (sym (append-nil by_now) ∙ ap (λ (l : List ℕ). by_now ++ l) (sym (nothing_more ss p q off r)) ∙ sym is)

  module _ {N : Type 0} (inj : M → N) (goes : R → N → R → Type 0) (lift : (p q : R) (m : M) → turns p m q → goes p (inj m) q) (brings : N → List ℕ) where
    abbrev pub step_of : M × List ℕ → N × Exchange
    step_of s = (inj s.0, record { read = brings (inj s.0); wrote = s.1 })

    pub exchanged : (ss : List (M × List ℕ)) (p q : R) (written by_now : List ℕ) → Steps p ss q → IsUpTo p by_now → written ≡ by_now ++ total ss
        → FoldsTo (IsExchange goes brings says written) (record { run = p; wrote = by_now }) (map step_of ss) (record { run = q; wrote = written })
    exchanged [] p q written by_now r up is =
        let same = sym (append-nil by_now) ∙ sym is in
        λ i. record { run = r i; wrote = same i }
    exchanged (s ∷ ss) p q written by_now r up is =
        let next = steps_on p r.0 s by_now r.1 up in
        let later : written ≡ (by_now ++ s.1) ++ total ss = is ∙ sym (append_assoc by_now s.1 (total ss)) in (
          record { run = r.0; wrote = by_now ++ s.1 },
          record {
            turn = lift p r.0 s.0 r.1.turn;
            read = refl;
            wrote = refl;
            said = next.0;
            whole = whole_by ss r.0 q written (by_now ++ s.1) r.2 later next.1;
          },
          exchanged ss r.0 q written (by_now ++ s.1) r.2 next later,
        )

-- THE NOTES
one_note : (came : Mail → List ℕ) (n : Note) (x : Mail) (wrote : List ℕ) → n.took ≡ Some x → n.wrote ≡ wrote
    → record { read = came x; wrote = wrote } ≡ exchange_of came n
one_note came n x wrote took is = sym (λ i. exchange_of came (record { took = took i; wrote = is i }))

both_parts : {A : Type 0} (a b : A) (us vs : List A) → a ∷ us ≡ b ∷ vs → (a ≡ b) × (us ≡ vs)
both_parts a b us vs e = (cc, cc)

-- the notes of these messages are the steps
pub same_steps : {M K : Type 0} (of_step : M → K) (of_mail : Mail → K) (brings : K → List ℕ) (ss : List (M × List ℕ)) (notes : List Note) (mails : List Mail)
    → map (λ s. of_step s.0) ss ≡ map of_mail mails → map (λ n. n.took) notes ≡ map (λ x. Some x) mails → map (λ n. n.wrote) notes ≡ map (λ s. s.1) ss
    → map (λ s. record { read = brings (of_step s.0); wrote = s.1 }) ss ≡ map (exchange_of (λ x. brings (of_mail x))) notes
same_steps of_step of_mail brings [] [] mails of took wrote = refl
same_steps of_step of_mail brings [] (n ∷ ns) mails of took wrote = absurd (cons_nil wrote)
  where
    cons_nil : {A : Type 0} {x : A} {xs : List A} → x ∷ xs ≡ [] → ⊥
    cons_nil e = cc
same_steps of_step of_mail brings (s ∷ ss) [] mails of took wrote = absurd (nil_cons wrote)
  where
    nil_cons : {A : Type 0} {x : A} {xs : List A} → [] ≡ x ∷ xs → ⊥
    nil_cons e = cc
same_steps of_step of_mail brings (s ∷ ss) (n ∷ ns) [] of took wrote = absurd (cons_nil of)
  where
    cons_nil : {A : Type 0} {x : A} {xs : List A} → x ∷ xs ≡ [] → ⊥
    cons_nil e = cc
same_steps {M} {K} of_step of_mail brings (s ∷ ss) (n ∷ ns) (x ∷ xs) of took wrote =
    let o = both_parts (of_step s.0) (of_mail x) (map (λ (t : M × List ℕ). of_step t.0) ss) (map of_mail xs) of in
    let t = both_parts n.took (Some x) (map (λ (m : Note). m.took) ns) (map (λ (y : Mail). Some y) xs) took in
    let w = both_parts n.wrote s.1 (map (λ (m : Note). m.wrote) ns) (map (λ (u : M × List ℕ). u.1) ss) wrote in
    let first = ap (λ (k : K). record { read = brings k; wrote = s.1 }) o.0 ∙ one_note (λ y. brings (of_mail y)) n x s.1 t.0 w.0 in
    let later = same_steps of_step of_mail brings ss ns xs o.1 t.1 w.1 in
    λ i. first i ∷ later i
