-- One more key: what it does to the entries and to the half-typed line of any keys before it.
use Rattle.std.proofs.Common.{◌≡◌, ◌≤◌, ℕ, zero, suc, ◌-◌, Bool, true, false, Option, Some, None, List, [], ◌∷◌, ◌++◌, length, reverse, refl, sym, ap, ◌∙◌}
use Rattle.std.proofs.{Common.{if◌then◌else◌, subst, arith, append-nil, append_assoc, length-append, length-take}, lemmas.Grind.flat_map-append}
use Rattle.std.proofs.lemmas.List.{reverse-append, reverse-reverse, take_at}
use Rattle.std.specs.List.{flat_map}
use Rattle.tn_discipline.specs.{declared.{keys.Role.Role, reads.Entry.Entry}, Limits.max_counted, Pieces.{Piece, Pieces, closing_bytes, cut_before, pieces_of}}
use Rattle.tn_discipline.specs.{Admitted.{next_count, is_dropped, admitted_after, admitted_roles, count_after, count_of}, Kept.{kept_backwards, kept_bytes}}
use Rattle.tn_discipline.specs.Entries.{signals, line_of, piece_entries, entries_of, half_of}
use Rattle.tn_discipline.specs.Steps.{front, half_after, gain_after, half_next, gain_next, half_all, gain_all}
use Rattle.tn_discipline.specs.declared.keys.Role.TheVariants as role
use Rattle.tn_discipline.specs.declared.reads.Entry.TheVariants as entry

abbrev with_last : Pieces → Role → Pieces
with_last p r = record { closed = p.closed; last = p.last ++ r ∷ [] }

abbrev with_closed : Pieces → List ℕ → Pieces
with_closed p bytes = record { closed = p.closed ++ record { keys = p.last; closing = bytes } ∷ []; last = [] }

before_last : (o : Option (List ℕ)) (x r : Role) (ps : List Piece) (l : List Role)
    → cut_before o x (with_last (record { closed = ps; last = l }) r) ≡ with_last (cut_before o x (record { closed = ps; last = l })) r
before_last None x r [] l = refl
before_last None x r (p ∷ ps) l = refl
before_last (Some bytes) x r ps l = refl

before_closed : (o : Option (List ℕ)) (x : Role) (bytes : List ℕ) (ps : List Piece) (l : List Role)
    → cut_before o x (with_closed (record { closed = ps; last = l }) bytes) ≡ with_closed (cut_before o x (record { closed = ps; last = l })) bytes
before_closed None x bytes [] l = refl
before_closed None x bytes (p ∷ ps) l = refl
before_closed (Some b) x bytes ps l = refl

-- a key that does not close goes into the last piece
cut-open : (xs : List Role) (r : Role) → closing_bytes r ≡ None → pieces_of (xs ++ r ∷ []) ≡ with_last (pieces_of xs) r
cut-open [] r h = ap (λ o. cut_before o r (record { closed = []; last = [] })) h
cut-open (x ∷ xs) r h = ap (cut_before (closing_bytes x) x) (cut-open xs r h) ∙ before_last (closing_bytes x) x r (pieces_of xs).closed (pieces_of xs).last

-- a closing key makes the last piece a closed one
cut-close : (xs : List Role) (r : Role) (bytes : List ℕ) → closing_bytes r ≡ Some bytes → pieces_of (xs ++ r ∷ []) ≡ with_closed (pieces_of xs) bytes
cut-close [] r bytes h = ap (λ o. cut_before o r (record { closed = []; last = [] })) h
cut-close (x ∷ xs) r bytes h = ap (cut_before (closing_bytes x) x) (cut-close xs r bytes h)
    ∙ before_closed (closing_bytes x) x bytes (pieces_of xs).closed (pieces_of xs).last

signals-append : (xs ys : List Role) → signals (xs ++ ys) ≡ signals xs ++ signals ys
signals-append [] ys = refl
signals-append (role.Signal sig ∷ xs) ys = ap (λ rs. entry.Signal sig ∷ rs) (signals-append xs ys)
signals-append (_ ∷ xs) ys = signals-append xs ys

front-push : (xs : List ℕ) (b : ℕ) → front (xs ++ b ∷ []) ≡ xs
front-push xs b = take_at xs (b ∷ []) _ (omega (arith, length-append xs (b ∷ [])))

-- one more erasure takes the last of what is kept
kept-erased : (n : ℕ) (before : List Role) → kept_backwards (suc n) before ≡ front (kept_backwards n before)
kept-erased n [] = refl
kept-erased n (role.Kill ∷ before) = refl
kept-erased n (role.Erase ∷ before) = kept-erased (suc n) before
kept-erased zero (role.Ordinary b ∷ before) = sym (front-push (kept_backwards zero before) b)
kept-erased (suc n) (role.Ordinary b ∷ before) = kept-erased n before
kept-erased n (_ ∷ before) = kept-erased n before

-- the entries of admitted keys, and the half-typed line that they leave
abbrev entries_in : Pieces → List Entry
entries_in pieces = flat_map piece_entries pieces.closed ++ signals pieces.last

kept-push : (p : List Role) (r : Role) → kept_bytes (p ++ r ∷ []) ≡ kept_backwards 0 (r ∷ reverse p)
kept-push p r = ap (kept_backwards 0) (reverse-append p (r ∷ []))

half-open : (a : List Role) (r : Role) → closing_bytes r ≡ None → kept_bytes (pieces_of (a ++ r ∷ [])).last ≡ kept_backwards 0 (r ∷ reverse (pieces_of a).last)
half-open a r h = ap (λ (p : Pieces). kept_bytes p.last) (cut-open a r h) ∙ kept-push (pieces_of a).last r

half-close : (a : List Role) (r : Role) (bytes : List ℕ) → closing_bytes r ≡ Some bytes → kept_bytes (pieces_of (a ++ r ∷ [])).last ≡ []
half-close a r bytes h = ap (λ (p : Pieces). kept_bytes p.last) (cut-close a r bytes h)

entries-open : (a : List Role) (r : Role) → closing_bytes r ≡ None → entries_in (pieces_of (a ++ r ∷ [])) ≡ entries_in (pieces_of a) ++ signals (r ∷ [])
entries-open a r h =
    ap entries_in (cut-open a r h)
    ∙ ap (λ s. flat_map piece_entries (pieces_of a).closed ++ s) (signals-append (pieces_of a).last (r ∷ []))
    ∙ sym (append_assoc (flat_map piece_entries (pieces_of a).closed) (signals (pieces_of a).last) (signals (r ∷ [])))

entries-close : (a : List Role) (r : Role) (bytes : List ℕ) → closing_bytes r ≡ Some bytes
    → entries_in (pieces_of (a ++ r ∷ [])) ≡ entries_in (pieces_of a) ++ line_of (kept_bytes (pieces_of a).last ++ bytes) ∷ []
entries-close a r bytes h =
    ap entries_in (cut-close a r bytes h)
    ∙ simp (append-nil, flat_map-append, append_assoc)

-- the half-typed line that admitted keys and one more leave
half-admitted : (a : List Role) (r : Role) → kept_bytes (pieces_of (a ++ r ∷ [])).last ≡ half_after (kept_bytes (pieces_of a).last) r
half-admitted a (role.Ordinary byte) = half-open a (role.Ordinary byte) refl
half-admitted a role.Erase = half-open a role.Erase refl ∙ kept-erased 0 (reverse (pieces_of a).last)
half-admitted a role.Kill = half-open a role.Kill refl
half-admitted a (role.Signal sig) = half-open a (role.Signal sig) refl
half-admitted a role.Ignored = half-open a role.Ignored refl
half-admitted a role.Nl = half-close a role.Nl (10 ∷ []) refl
half-admitted a (role.Eol byte) = half-close a (role.Eol byte) (byte ∷ []) refl
half-admitted a (role.Eol2 byte) = half-close a (role.Eol2 byte) (byte ∷ []) refl
half-admitted a role.Eof = half-close a role.Eof [] refl

entries-admitted : (a : List Role) (r : Role) → entries_in (pieces_of (a ++ r ∷ [])) ≡ entries_in (pieces_of a) ++ gain_after (kept_bytes (pieces_of a).last) r
entries-admitted a (role.Ordinary byte) = entries-open a (role.Ordinary byte) refl
entries-admitted a role.Erase = entries-open a role.Erase refl
entries-admitted a role.Kill = entries-open a role.Kill refl
entries-admitted a (role.Signal sig) = entries-open a (role.Signal sig) refl
entries-admitted a role.Ignored = entries-open a role.Ignored refl
entries-admitted a role.Nl = entries-close a role.Nl (10 ∷ []) refl
entries-admitted a (role.Eol byte) = entries-close a (role.Eol byte) (byte ∷ []) refl
entries-admitted a (role.Eol2 byte) = entries-close a (role.Eol2 byte) (byte ∷ []) refl
entries-admitted a role.Eof =
    entries-close a role.Eof [] refl ∙ ap (λ bytes. entries_in (pieces_of a) ++ line_of bytes ∷ []) (append-nil (kept_bytes (pieces_of a).last))

-- a key after any keys, by whether the count drops it
half_by_test : (b : Bool) (a : List Role) (r : Role) → kept_bytes (pieces_of (a ++ (if b then [] else r ∷ []))).last
    ≡ (if b then kept_bytes (pieces_of a).last else half_after (kept_bytes (pieces_of a).last) r)
half_by_test true a r = ap (λ x. kept_bytes (pieces_of x).last) (append-nil a)
half_by_test false a r = half-admitted a r

entries_by_test : (b : Bool) (a : List Role) (r : Role) → entries_in (pieces_of (a ++ (if b then [] else r ∷ []))) ≡ entries_in (pieces_of a)
    ++ (if b then [] else gain_after (kept_bytes (pieces_of a).last) r)
entries_by_test true a r = ap (λ x. entries_in (pieces_of x)) (append-nil a) ∙ sym (append-nil (entries_in (pieces_of a)))
entries_by_test false a r = entries-admitted a r

-- an admitted key changes the length as it changes the count
length-half_after : (held : List ℕ) (r : Role) → length (half_after held r) ≡ next_count (length held) r
length-half_after held (role.Ordinary byte) = length-append held (byte ∷ [])
length-half_after held role.Erase = omega (arith, length-take (length held - 1) held)
length-half_after held _ = refl

pub length_by_test : (b : Bool) (held : List ℕ) (n : ℕ) (r : Role) → length held ≡ n
    → length (if b then held else half_after held r) ≡ (if b then n else next_count n r)
length_by_test true held n r h = h
length_by_test false held n r h = length-half_after held r ∙ ap (λ m. next_count m r) h

module _ (limit : ℕ) where
  admitted_by_test : (b : Bool) (x : Role) (n m : ℕ) (xs ys : List Role)
      → admitted_after limit n (xs ++ ys) ≡ admitted_after limit n xs ++ admitted_after limit (count_after limit n xs) ys
      → admitted_after limit m (xs ++ ys) ≡ admitted_after limit m xs ++ admitted_after limit (count_after limit m xs) ys
      → (if b then admitted_after limit n (xs ++ ys) else x ∷ admitted_after limit m (xs ++ ys))
      ≡ (if b then admitted_after limit n xs else x ∷ admitted_after limit m xs)
      ++ admitted_after limit (if b then count_after limit n xs else count_after limit m xs) ys
  admitted_by_test true x n m xs ys dropped kept_bytes = dropped
  admitted_by_test false x n m xs ys dropped kept_bytes = ap (λ rs. x ∷ rs) kept_bytes

  -- the keys admitted of a list are those of its front, and those of its rest after the front's count
  pub admitted_after-append : (n : ℕ) (xs ys : List Role) → admitted_after limit n (xs ++ ys) ≡ admitted_after limit n xs
      ++ admitted_after limit (count_after limit n xs) ys
  admitted_after-append n [] ys = refl
  admitted_after-append n (x ∷ xs) ys =
      admitted_by_test (is_dropped limit n x) x n (next_count n x) xs ys (admitted_after-append n xs ys) (admitted_after-append (next_count n x) xs ys)

  count_by_test : (b : Bool) (n m : ℕ) (xs ys : List Role) → count_after limit n (xs ++ ys) ≡ count_after limit (count_after limit n xs) ys
      → count_after limit m (xs ++ ys) ≡ count_after limit (count_after limit m xs) ys
      → (if b then count_after limit n (xs ++ ys) else count_after limit m (xs ++ ys))
      ≡ count_after limit (if b then count_after limit n xs else count_after limit m xs) ys
  count_by_test true n m xs ys dropped kept_bytes = dropped
  count_by_test false n m xs ys dropped kept_bytes = kept_bytes

  pub count_after-append : (n : ℕ) (xs ys : List Role) → count_after limit n (xs ++ ys) ≡ count_after limit (count_after limit n xs) ys
  count_after-append n [] ys = refl
  count_after-append n (x ∷ xs) ys =
      count_by_test (is_dropped limit n x) n (next_count n x) xs ys (count_after-append n xs ys) (count_after-append (next_count n x) xs ys)

  pub half-one_more : (h : List Role) (r : Role) → half_of limit (h ++ r ∷ [])
      ≡ (if is_dropped limit (count_of limit h) r then half_of limit h else half_after (half_of limit h) r)
  half-one_more h r = ap (λ x. kept_bytes (pieces_of x).last) (admitted_after-append 0 h (r ∷ []))
      ∙ half_by_test (is_dropped limit (count_of limit h) r) (admitted_roles limit h) r

  pub entries-one_more : (h : List Role) (r : Role) → entries_of limit (h ++ r ∷ []) ≡ entries_of limit h
      ++ (if is_dropped limit (count_of limit h) r then [] else gain_after (half_of limit h) r)
  entries-one_more h r = ap (λ x. entries_in (pieces_of x)) (admitted_after-append 0 h (r ∷ []))
      ∙ entries_by_test (is_dropped limit (count_of limit h) r) (admitted_roles limit h) r

  -- The count is the length of the half-typed line, by the keys from the last to the first.
  length_backwards : (back : List Role) → length (half_of limit (reverse back)) ≡ count_of limit (reverse back)
  length_backwards [] = refl
  length_backwards (r ∷ back) =
      let more : reverse (r ∷ back) ≡ reverse back ++ r ∷ [] = reverse-append (r ∷ []) back in
      ap (λ h. length (half_of limit h)) more
      ∙ ap length (half-one_more (reverse back) r)
      ∙ length_by_test (is_dropped limit (count_of limit (reverse back)) r) (half_of limit (reverse back)) (count_of limit (reverse back)) r
      (length_backwards back)
      ∙ sym (count_after-append 0 (reverse back) (r ∷ []))
      ∙ ap (count_after limit 0) (sym more)

  -- The plain count after the admitted keys is the length of the half-typed line.
  pub length-half_of : (h : List Role) → length (half_of limit h) ≡ count_of limit h
  length-half_of h = subst (λ x. length (half_of limit x) ≡ count_after limit 0 x) (reverse-reverse h) (length_backwards (reverse h))

  -- One more key, by the half-typed line only.
  pub half-next : (h : List Role) (r : Role) → half_of limit (h ++ r ∷ []) ≡ half_next limit (half_of limit h) r
  half-next h r = half-one_more h r ∙ ap (λ n. if is_dropped limit n r then half_of limit h else half_after (half_of limit h) r) (sym (length-half_of h))

  pub entries-next : (h : List Role) (r : Role) → entries_of limit (h ++ r ∷ []) ≡ entries_of limit h ++ gain_next limit (half_of limit h) r
  entries-next h r = entries-one_more h r ∙ ap (λ n. entries_of limit h ++ (if is_dropped limit n r then [] else gain_after (half_of limit h) r))
      (sym (length-half_of h))

  -- a half-typed line fits
  fits_by_test : (b : Bool) (n : ℕ) (r : Role) → (is_dropped limit n r ≡ b) → n ≤ max_counted limit → (if b then n else next_count n r) ≤ max_counted limit
  fits_by_test true n r e h = h
  fits_by_test false n (role.Ordinary byte) e h = grind arith
  fits_by_test false n _ e h = omega arith

  fits_both : (b : Bool) (n : ℕ) (r : Role) (h : List Role) → (is_dropped limit n r ≡ b) → count_after limit n h ≤ max_counted limit
      → (next_count n r ≤ max_counted limit → count_after limit (next_count n r) h ≤ max_counted limit) → n ≤ max_counted limit
      → (if b then count_after limit n h else count_after limit (next_count n r) h) ≤ max_counted limit
  fits_both true n r h e same more small = same
  fits_both false n r h e same more small = more (fits_by_test false n r e small)

  fits_after : (n : ℕ) (h : List Role) → n ≤ max_counted limit → count_after limit n h ≤ max_counted limit
  fits_after n [] e = e
  fits_after n (r ∷ h) e = fits_both (is_dropped limit n r) n r h refl (fits_after n h e) (λ small. fits_after (next_count n r) h small) e

  pub half_of-fits : (h : List Role) → length (half_of limit h) ≤ max_counted limit
  half_of-fits h = subst (λ n. n ≤ max_counted limit) (sym (length-half_of h)) (fits_after 0 h (omega arith))

  -- more keys, by the half-typed line only
  pub half-all : (h roles : List Role) → half_of limit (h ++ roles) ≡ half_all limit (half_of limit h) roles
  half-all h [] = ap (half_of limit) (append-nil h)
  half-all h (r ∷ roles) =
      ap (half_of limit) (sym (append_assoc h (r ∷ []) roles)) ∙ half-all (h ++ r ∷ []) roles ∙ ap (λ x. half_all limit x roles) (half-next h r)

  pub entries-all : (h roles : List Role) → entries_of limit (h ++ roles) ≡ entries_of limit h ++ gain_all limit (half_of limit h) roles
  entries-all h [] = ap (entries_of limit) (append-nil h) ∙ sym (append-nil (entries_of limit h))
  entries-all h (r ∷ roles) =
      ap (entries_of limit) (sym (append_assoc h (r ∷ []) roles))
      ∙ entries-all (h ++ r ∷ []) roles
      ∙ ap (λ x. entries_of limit (h ++ r ∷ []) ++ gain_all limit x roles) (half-next h r)
      ∙ ap (λ x. x ++ gain_all limit (half_next limit (half_of limit h) r) roles) (entries-next h r)
      ∙ append_assoc (entries_of limit h) (gain_next limit (half_of limit h) r) (gain_all limit (half_next limit (half_of limit h) r) roles)
