-- Each run has its transcript, whichever part of what it sends was written.
use Rattle.std.proofs.Common.{◌≡◌, ◌⊎◌, inl, inr, ℕ, List, [], ◌∷◌, ◌++◌, refl, sym, ap, ◌∙◌, subst, map, flat_map, append_assoc, append-nil}
use Rattle.std.proofs.lemmas.List.{append_cancel_left}
use Rattle.std.specs.List.{FoldsTo}
use Rattle.tn_session.specs.Transcripts.{Exchange, Point, IsExchange, all_read, all_wrote}
use Rattle.tn_nvt.specs.Prefixes.{IsPrefixOf}

pub prefix_trans : {A : Type 0} (xs ys zs : List A) → IsPrefixOf xs ys → IsPrefixOf ys zs → IsPrefixOf xs zs
prefix_trans {A} xs ys zs p q = (p.0 ++ q.0, sym (append_assoc xs p.0 q.0) ∙ ap (λ (l : List A). l ++ q.0) p.1 ∙ q.1)

pub prefix_self : {A : Type 0} (xs : List A) → IsPrefixOf xs xs
prefix_self xs = ([], append-nil xs)

heads : {A : Type 0} (a b : A) (us vs : List A) → a ∷ us ≡ b ∷ vs → (a ≡ b) × (us ≡ vs)
heads a b us vs e = (cc, cc)

one_longer : {A : Type 0} (x y : A) (xs ys : List A) → x ≡ y → IsPrefixOf xs ys ⊎ IsPrefixOf ys xs → IsPrefixOf (x ∷ xs) (y ∷ ys) ⊎ IsPrefixOf (y ∷ ys) (x ∷ xs)
one_longer x y xs ys e (inl r) = inl (r.0, λ i. e i ∷ r.1 i)
one_longer x y xs ys e (inr r) = inr (r.0, λ i. sym e i ∷ r.1 i)

-- one of two prefixes of one list begins the other
pub compare : {A : Type 0} (xs ys zs : List A) → IsPrefixOf xs zs → IsPrefixOf ys zs → IsPrefixOf xs ys ⊎ IsPrefixOf ys xs
compare [] ys zs p q = inl (ys, refl)
compare (x ∷ xs) [] zs p q = inr (x ∷ xs, refl)
compare (x ∷ xs) (y ∷ ys) zs p q =
    let h = heads x y (xs ++ p.0) (ys ++ q.0) (p.1 ∙ sym q.1) in
    one_longer x y xs ys h.0 (compare xs ys (ys ++ q.0) (p.0, h.1) (q.0, refl))

-- two lists that begin each other are one
pub both_ways : {A : Type 0} (xs ys : List A) → IsPrefixOf xs ys → IsPrefixOf ys xs → xs ≡ ys
both_ways {A} xs ys p q =
    let around : xs ++ (p.0 ++ q.0) ≡ xs ++ [] = sym (append_assoc xs p.0 q.0) ∙ ap (λ (l : List A). l ++ q.0) p.1 ∙ q.1 ∙ sym (append-nil xs) in
    sym (append-nil xs) ∙ ap (λ (l : List A). xs ++ l) (sym (none p.0 q.0 (append_cancel_left xs (p.0 ++ q.0) [] around))) ∙ p.1
  where
    none : (us vs : List A) → us ++ vs ≡ [] → us ≡ []
    none [] vs e = refl
    none (u ∷ us) vs e = cc

pub all_read-append : (xs ys : List Exchange) → all_read (xs ++ ys) ≡ all_read xs ++ all_read ys
all_read-append [] ys = refl
all_read-append (x ∷ xs) ys = ap (λ (l : List ℕ). x.read ++ l) (all_read-append xs ys) ∙ sym (append_assoc x.read (all_read xs) (all_read ys))

pub all_wrote-append : (xs ys : List Exchange) → all_wrote (xs ++ ys) ≡ all_wrote xs ++ all_wrote ys
all_wrote-append [] ys = refl
all_wrote-append (x ∷ xs) ys = ap (λ (l : List ℕ). x.wrote ++ l) (all_wrote-append xs ys) ∙ sym (append_assoc x.wrote (all_wrote xs) (all_wrote ys))

-- the bytes written so far: of those sent so far, and of all that was ever written
pub record IsWritten (says all by_now : List ℕ) : Type 0 where
  pub said : IsPrefixOf by_now says
  pub written : IsPrefixOf by_now all

pub record IsUpToDate (says all by_now : List ℕ) : Type 0 where
  pub is : IsWritten says all by_now
  pub whole : (by_now ≡ says) ⊎ (by_now ≡ all)

-- one step on
pub on_to : (before after all written by_now : List ℕ) → IsPrefixOf before after → IsPrefixOf after all → IsPrefixOf written all
    → IsWritten before written by_now
    → (more : List ℕ) × IsUpToDate after written (by_now ++ more)
on_to before after all written by_now grows within of is = go (compare after written all within of)
  where
    upto : (now : List ℕ) (p : IsPrefixOf by_now now) → IsUpToDate after written now → (more : List ℕ) × IsUpToDate after written (by_now ++ more)
    upto now p u = (p.0, subst (λ (l : List ℕ). IsUpToDate after written l) (sym p.1) u)

    go : IsPrefixOf after written ⊎ IsPrefixOf written after → (more : List ℕ) × IsUpToDate after written (by_now ++ more)
    go (inl first) = upto after (prefix_trans by_now before after is.said grows)
        (record { is = record { said = prefix_self after; written = first }; whole = inl refl })
    go (inr first) = upto written is.written (record { is = record { said = first; written = prefix_self written }; whole = inr refl })

module _ {R M : Type 0} (turns : R → M → R → Type 0) (brings : M → List ℕ) (says : R → List ℕ) (Good : R → Type 0)
    (grows : (p q : R) (m : M) → Good p → turns p m q → Good q × IsPrefixOf (says p) (says q)) where
  pub all_grow : (ms : List M) (p last : R) → Good p → FoldsTo turns p ms last → IsPrefixOf (says p) (says last)
  all_grow [] p last g r = ([], append-nil (says p) ∙ ap says r)
  all_grow (m ∷ ms) p last g r =
      let one = grows p r.0 m g r.1 in
      prefix_trans (says p) (says r.0) (says last) one.1 (all_grow ms r.0 last one.0 r.2)

  abbrev Steps : List ℕ → Point R → List M → Point R → Type 0
  Steps written p ms q = (steps : List (M × Exchange)) × (map (λ s. s.0) steps ≡ ms) × FoldsTo (IsExchange turns brings says written) p steps q

  -- all that follows, from the bytes written so far
  pub transcribes_on : (ms : List M) (p last : R) (written by_now : List ℕ) → Good p → FoldsTo turns p ms last → IsPrefixOf written (says last)
      → IsUpToDate (says p) written by_now
      → Steps written (record { run = p; wrote = by_now }) ms (record { run = last; wrote = written })
  transcribes_on [] p last written by_now g r of up = ([], refl, λ i. record { run = r i; wrote = at_last up.whole i })
    where
      at_last : (by_now ≡ says p) ⊎ (by_now ≡ written) → by_now ≡ written
      at_last (inl e) = both_ways by_now written up.is.written (of.0, of.1 ∙ ap says (sym r) ∙ sym e)
      at_last (inr e) = e
  transcribes_on (m ∷ ms) p last written by_now g r of up =
      let one = grows p r.0 m g r.1 in
      let next = on_to (says p) (says r.0) (says last) written by_now one.1 (all_grow ms r.0 last one.0 r.2) of up.is in
      let later = transcribes_on ms r.0 last written (by_now ++ next.0) one.0 r.2 of next.1 in (
        (m, record { read = brings m; wrote = next.0 }) ∷ later.0,
        ap (λ (l : List M). m ∷ l) later.1,
        (
          record { run = r.0; wrote = by_now ++ next.0 },
          record { turn = r.1; read = refl; wrote = refl; said = next.1.is.said; whole = next.1.whole },
          later.2,
        ),
      )

module _ {R M : Type 0} (turns : R → M → R → Type 0) (brings : M → List ℕ) (says : R → List ℕ) where
  -- the bytes that the steps read are those that the messages bring
  pub reads_all : (written : List ℕ) (steps : List (M × Exchange)) (p q : Point R) → FoldsTo (IsExchange turns brings says written) p steps q
      → all_read (map (λ s. s.1) steps) ≡ flat_map brings (map (λ s. s.0) steps)
  reads_all written [] p q r = refl
  reads_all written (s ∷ steps) p q r = λ i. r.1.read i ++ reads_all written steps r.0 q r.2 i

  -- the bytes that the steps wrote come to all that was written
  pub wrote_all : (written : List ℕ) (steps : List (M × Exchange)) (p q : Point R) → FoldsTo (IsExchange turns brings says written) p steps q
      → q.wrote ≡ p.wrote ++ all_wrote (map (λ s. s.1) steps)
  wrote_all written [] p q r = sym (ap (λ (x : Point R). x.wrote) r) ∙ sym (append-nil p.wrote)
  wrote_all written (s ∷ steps) p q r =
      let later = all_wrote (map (λ (x : M × Exchange). x.1) steps) in
      wrote_all written steps r.0 q r.2 ∙ ap (λ (l : List ℕ). l ++ later) r.1.wrote ∙ append_assoc p.wrote s.1.wrote later
