-- A queue of symbols that is kept as bytes, with a mark for each line feed among them.
use Rattle.std.proofs.Common.{◌≡◌, ◌<◌, ◌≤◌, ℕ, zero, suc, ◌+◌, ◌-◌, ◌==◌, ◌||◌, min, Bool, true, false, List, [], ◌∷◌, ◌++◌, length, map, take, drop, get_or}
use Rattle.std.proofs.{Common.{replicate, refl, sym, ap, ◌∙◌, inl, inr, if◌then◌else◌, arith, append-nil, length-append, take-add}, lemmas.Bool.cases_Bool}
use Rattle.std.proofs.lemmas.{Bool.{or_parts, false_from_ne_true, ne_eqb}, List.{take_more, take_min, take-append-drop, drop-drop, length-drop, length-take}}
use Rattle.std.specs.Prelude.{IsOk, OnOk, ◌↔◌, Result, Ok, Err}
use Rattle.memchr.specs.Find.{is_byte, is_byte3, Passes, Nowhere}
use Rattle.tn_discipline.specs.declared.echo.Symbol.{Symbol, TheVariants.{Byte, Newline}}
use Rattle.tn_pty.specs.Runs.{shown_byte, ends_run, leading_run, leading_bytes, feeds, marks_after, marked_symbols}

-- a queue has as many symbols as bytes
pub length-marked : (bytes : List ℕ) (marks : List Bool) → length (marked_symbols bytes marks) ≡ length bytes
length-marked [] marks = refl
length-marked (b ∷ bs) marks = ap suc (length-marked bs (marks_after b marks))

pub feeds-le : (bytes : List ℕ) → feeds bytes ≤ length bytes
feeds-le [] = omega arith
feeds-le (b ∷ bs) =
    elim (cases_Bool (b == 10)) [
      | inl t ↦ rw t (omega (arith, feeds-le bs))
      | inr t ↦ rw t (omega (arith, feeds-le bs))
    ]

pub feeds-append : (xs ys : List ℕ) → feeds (xs ++ ys) ≡ feeds xs + feeds ys
feeds-append [] ys = omega arith
feeds-append (x ∷ xs) ys =
    elim (cases_Bool (x == 10)) [
      | inl t ↦ rw t (omega (arith, feeds-append xs ys))
      | inr t ↦ rw t (feeds-append xs ys)
    ]

-- the symbols of the first bytes and of some after them add up
pub feeds_parts : (i n : ℕ) (bytes : List ℕ) → feeds (take (i + n) bytes) ≡ feeds (take i bytes) + feeds (take n (drop i bytes))
feeds_parts i n bytes = ap feeds (take-add i n bytes) ∙ feeds-append (take i bytes) (take n (drop i bytes))

pub feeds_rest : (i : ℕ) (bytes : List ℕ) → feeds bytes ≡ feeds (take i bytes) + feeds (drop i bytes)
feeds_rest i bytes = ap feeds (sym (take-append-drop i bytes)) ∙ feeds-append (take i bytes) (drop i bytes)

-- there is none in front of the first
pub feeds_nowhere : (bytes : List ℕ) (n : ℕ) → n ≤ length bytes → Nowhere (Passes (is_byte 10) bytes) 0 n → feeds (take n bytes) ≡ 0
feeds_nowhere bytes zero within nowhere = refl
feeds_nowhere [] (suc n) within nowhere = refl
feeds_nowhere (b ∷ bs) (suc n) within nowhere =
    let t : (b == 10) ≡ false = false_from_ne_true (b == 10) (nowhere 0 (omega arith) (omega arith)) in
    rw t (feeds_nowhere bs n (omega (arith, within)) (λ k low high. nowhere (suc k) (omega arith) (omega (arith, high))))

module _ (cs : List ℕ) (ns : List Bool) where
  -- the symbols after bytes that have a mark for each line feed
  pub marked-append : (bs : List ℕ) (ms : List Bool) → length ms ≡ feeds bs
      → marked_symbols (bs ++ cs) (ms ++ ns) ≡ marked_symbols bs ms ++ marked_symbols cs ns
  marked-append [] [] e = refl
  marked-append [] (m ∷ ms) e = absurd (omega (arith, e))
  marked-append (b ∷ bs) [] e =
      elim (cases_Bool (b == 10)) [
        | inl t ↦ let is = rw t at e in absurd (omega (arith, is))
        | inr t ↦ let is = rw t at e in rw t (ap (λ xs. Byte b ∷ xs) (marked-append bs [] is))
      ]
  marked-append (b ∷ bs) (m ∷ ms) e =
      elim (cases_Bool (b == 10)) [
        | inl t ↦
            let is = rw t at e in
            let rest : length ms ≡ feeds bs = omega (arith, is) in
            rw t (ap (λ xs. (if m then Newline else Byte b) ∷ xs) (marked-append bs ms rest))
        | inr t ↦ let is = rw t at e in rw t (ap (λ xs. Byte b ∷ xs) (marked-append bs (m ∷ ms) is))
      ]

-- bytes of which each line feed has the same mark
pub marked-replicate : (newlines : Bool) (bytes : List ℕ) → marked_symbols bytes (replicate (feeds bytes) newlines) ≡ map (shown_byte newlines) bytes
marked-replicate newlines [] = refl
marked-replicate newlines (b ∷ bs) =
    elim (cases_Bool (b == 10)) [
      | inl t ↦ rw t (ap (λ xs. (if newlines then Newline else Byte b) ∷ xs) (marked-replicate newlines bs))
      | inr t ↦ rw t (ap (λ xs. Byte b ∷ xs) (marked-replicate newlines bs))
    ]

-- without new lines a byte is shown as it is, and any but a line feed is
pub shown_one : (b : ℕ) → shown_byte false b ≡ Byte b
shown_one b =
    elim (cases_Bool (b == 10)) [
      | inl t ↦ rw t refl
      | inr t ↦ rw t refl
    ]

pub shown_other : (newline : Bool) (b : ℕ) → (b ≡ 10 → ⊥) → shown_byte newline b ≡ Byte b
shown_other newline b other = rw (ne_eqb b 10 other) refl

pub feeds_other : (b : ℕ) → (b ≡ 10 → ⊥) → feeds (b ∷ []) ≡ 0
feeds_other b other = rw (ne_eqb b 10 other) refl

-- a byte that is no line feed has no mark
pub marked_other : (bs : List ℕ) (ms : List Bool) (newline : Bool) (b : ℕ) → (b ≡ 10 → ⊥) → length ms ≡ feeds bs
    → marked_symbols (bs ++ b ∷ []) ms ≡ marked_symbols bs ms ++ shown_byte newline b ∷ []
marked_other bs ms newline b other e =
    ap (marked_symbols (bs ++ b ∷ [])) (sym (append-nil ms))
    ∙ marked-append (b ∷ []) [] bs ms e
    ∙ ap (λ s. marked_symbols bs ms ++ s ∷ []) (shown_other false b other ∙ sym (shown_other newline b other))

-- without new lines each byte is shown as it is
pub shown_plain : (bytes : List ℕ) → map (shown_byte false) bytes ≡ map Byte bytes
shown_plain [] = refl
shown_plain (b ∷ bs) = ap (λ s. s ∷ map (shown_byte false) bs) (shown_one b) ∙ ap (λ xs. Byte b ∷ xs) (shown_plain bs)

module _ (a b : ℕ) where
  -- the run of the symbols is that of the bytes
  pub leading_marked : (bytes : List ℕ) (marks : List Bool) → leading_run a b (marked_symbols bytes marks) ≡ leading_bytes a b bytes
  leading_marked [] marks = refl
  leading_marked (x ∷ xs) marks =
      elim (cases_Bool (x == 10)) [
        | inl t ↦
            elim (cases_Bool (get_or marks 0 false)) [
              | inl m ↦ rw (t, m) refl
              | inr m ↦ rw (t, m, t) refl
            ]
        | inr t ↦ rw (t, t) (ap (λ (xs : List ℕ). if x == a || x == b then [] else x ∷ xs) (leading_marked xs marks))
      ]

  -- a run has no line feed
  pub drop_run : (n : ℕ) (bytes : List ℕ) (marks : List Bool) → n ≤ length (leading_bytes a b bytes)
      → (drop n (marked_symbols bytes marks) ≡ marked_symbols (drop n bytes) marks) × (feeds (drop n bytes) ≡ feeds bytes)
  drop_run zero bytes marks le = (refl, refl)
  drop_run (suc n) [] marks le = absurd (omega (arith, le))
  drop_run (suc n) (x ∷ xs) marks le =
      elim (cases_Bool (ends_run a b x)) [
        | inl t ↦ let none = rw t at le in absurd (omega (arith, none))
        | inr t ↦
            let some = rw t at le in
            let rest = drop_run n xs marks (omega (arith, some)) in
            let plain : (x == 10) ≡ false = (or_parts (x == 10) (x == a) (or_parts (x == 10 || x == a) (x == b) t).0).0 in
            rw plain rest
      ]

  pub leading-take : (n : ℕ) (bytes : List ℕ) → leading_bytes a b (take n bytes) ≡ take n (leading_bytes a b bytes)
  leading-take zero bytes = refl
  leading-take (suc n) [] = refl
  leading-take (suc n) (x ∷ xs) =
      elim (cases_Bool (ends_run a b x)) [
        | inl t ↦ rw t refl
        | inr t ↦ rw t (ap (λ ys. x ∷ ys) (leading-take n xs))
      ]

  pub leading-le : (bytes : List ℕ) → length (leading_bytes a b bytes) ≤ length bytes
  leading-le [] = omega arith
  leading-le (x ∷ xs) =
      elim (cases_Bool (ends_run a b x)) [
        | inl t ↦ rw t (omega arith)
        | inr t ↦ rw t (omega (arith, leading-le xs))
      ]

  -- a run that ends within the bytes goes no further, and one that does not goes on after them
  pub leading_within : (xs ys : List ℕ) → length (leading_bytes a b xs) < length xs → leading_bytes a b (xs ++ ys) ≡ leading_bytes a b xs
  leading_within [] ys lt = absurd (omega (arith, lt))
  leading_within (x ∷ xs) ys lt =
      elim (cases_Bool (ends_run a b x)) [
        | inl t ↦ rw t refl
        | inr t ↦ let more = rw t at lt in rw t (ap (λ zs. x ∷ zs) (leading_within xs ys (omega (arith, more))))
      ]

  pub leading_beyond : (xs ys : List ℕ) → length xs ≤ length (leading_bytes a b xs)
      → leading_bytes a b (xs ++ ys) ≡ leading_bytes a b xs ++ leading_bytes a b ys
  leading_beyond [] ys le = refl
  leading_beyond (x ∷ xs) ys le =
      elim (cases_Bool (ends_run a b x)) [
        | inl t ↦ let none = rw t at le in absurd (omega (arith, none))
        | inr t ↦ let more = rw t at le in rw t (ap (λ zs. x ∷ zs) (leading_beyond xs ys (omega (arith, more))))
      ]

  -- the run by a search for what ends it
  pub leading_found : (bytes : List ℕ) (n : ℕ) → n ≤ length bytes → Nowhere (Passes (is_byte3 10 a b) bytes) 0 n
      → (n < length bytes → Passes (is_byte3 10 a b) bytes n) → leading_bytes a b bytes ≡ take n bytes
  leading_found [] zero within nowhere found = refl
  leading_found [] (suc n) within nowhere found = absurd (omega (arith, within))
  leading_found (x ∷ xs) zero within nowhere found = let t : ends_run a b x ≡ true = found (omega arith) in rw t refl
  leading_found (x ∷ xs) (suc n) within nowhere found =
      let t : ends_run a b x ≡ false = false_from_ne_true (ends_run a b x) (nowhere 0 (omega arith) (omega arith)) in
      rw t
      (ap (λ ys. x ∷ ys)
      (leading_found xs n (omega (arith, within)) (λ k low high. nowhere (suc k) (omega arith) (omega (arith, high))) (λ lt. found (omega (arith, lt)))))

-- the first symbols are those of the first bytes
pub take-marked : (n : ℕ) (bytes : List ℕ) (marks : List Bool) → take n (marked_symbols bytes marks) ≡ marked_symbols (take n bytes) marks
take-marked zero bytes marks = refl
take-marked (suc n) [] marks = refl
take-marked (suc n) (b ∷ bs) marks = ap (λ xs. shown_byte (get_or marks 0 false) b ∷ xs) (take-marked n bs (marks_after b marks))

drop-one : (n : ℕ) (marks : List Bool) → drop n (drop 1 marks) ≡ drop (suc n) marks
drop-one zero [] = refl
drop-one (suc n) [] = refl
drop-one n (m ∷ ms) = refl

-- the symbols after them are those of the other bytes, with the marks that are left
pub drop-marked : (n : ℕ) (bytes : List ℕ) (marks : List Bool) →
    drop n (marked_symbols bytes marks) ≡ marked_symbols (drop n bytes) (drop (feeds (take n bytes)) marks)
drop-marked zero bytes marks = refl
drop-marked (suc n) [] marks = refl
drop-marked (suc n) (b ∷ bs) marks =
    elim (cases_Bool (b == 10)) [
      | inl t ↦ rw t (drop-marked n bs (drop 1 marks) ∙ ap (marked_symbols (drop n bs)) (drop-one (feeds (take n bs)) marks))
      | inr t ↦ rw t (drop-marked n bs marks)
    ]

-- bytes after others
pub marked-both : (xs ys : List ℕ) (marks : List Bool) → marked_symbols (xs ++ ys) marks ≡ marked_symbols xs marks ++ marked_symbols ys (drop (feeds xs) marks)
marked-both [] ys marks = refl
marked-both (x ∷ xs) ys marks =
    elim (cases_Bool (x == 10)) [
      | inl t ↦
          let first : Symbol = if get_or marks 0 false then Newline else Byte x in
          rw t
          (ap (λ zs. first ∷ zs)
          (marked-both xs ys (drop 1 marks) ∙ ap (λ ms. marked_symbols xs (drop 1 marks) ++ marked_symbols ys ms) (drop-one (feeds xs) marks)))
      | inr t ↦ rw t (ap (λ zs. Byte x ∷ zs) (marked-both xs ys marks))
    ]

marks_drop : (b n : ℕ) (marks : List Bool) → marks_after b (drop n marks) ≡ drop (n + feeds (b ∷ [])) marks
marks_drop b n marks =
    elim (cases_Bool (b == 10)) [
      | inl t ↦ rw t (drop-drop 1 n marks)
      | inr t ↦ let same : n ≡ n + 0 = omega arith in rw t (ap (λ k. drop k marks) same)
    ]

-- a step of a loop over bytes: the symbol of the next byte, and the marks that it leaves
pub symbols_more : (bytes : List ℕ) (i : ℕ) (marks : List Bool) → i < length bytes
    → marked_symbols (take (i + 1) bytes) marks ≡ marked_symbols (take i bytes) marks
    ++ shown_byte (get_or (drop (feeds (take i bytes)) marks) 0 false) (get_or bytes i 0) ∷ []
symbols_more bytes i marks lt = ap (λ xs. marked_symbols xs marks) (take_more bytes i 0 lt) ∙ marked-both (take i bytes) (get_or bytes i 0 ∷ []) marks

pub marks_more : (bytes : List ℕ) (i : ℕ) (marks : List Bool) → i < length bytes
    → marks_after (get_or bytes i 0) (drop (feeds (take i bytes)) marks) ≡ drop (feeds (take (i + 1) bytes)) marks
marks_more bytes i marks lt =
    marks_drop (get_or bytes i 0) (feeds (take i bytes)) marks
    ∙ ap (λ n. drop n marks) (sym (feeds-append (take i bytes) (get_or bytes i 0 ∷ [])) ∙ ap feeds (sym (take_more bytes i 0 lt)))

-- the first of two lists that follow one another
take_both : (n : ℕ) (xs ys : List ℕ) → take n (xs ++ ys) ≡ take n xs ++ take (n - length xs) ys
take_both zero [] ys = refl
take_both (suc n) [] ys = let same : suc n ≡ suc n - 0 = omega arith in ap (λ k. take k ys) same
take_both zero (x ∷ xs) ys = let none : 0 ≡ 0 - suc (length xs) = omega arith in ap (λ k. take k ys) none
take_both (suc n) (x ∷ xs) ys =
    let left : n - length xs ≡ suc n - suc (length xs) = omega arith in
    ap (λ zs. x ∷ zs) (take_both n xs ys ∙ ap (λ k. take n xs ++ take k ys) left)

take_least : (n : ℕ) (xs : List ℕ) → take (min (length xs) n) xs ≡ take n xs
take_least n xs = let same : min (length xs) n ≡ min n (length xs) = omega arith in ap (λ k. take k xs) same ∙ take_min n xs

-- the first of two lists, as a loop over slices takes them
pub taken_both : (n : ℕ) (xs ys : List ℕ) → take (min (length xs) n) xs ++ take (n - min (length xs) n) ys ≡ take n (xs ++ ys)
taken_both n xs ys =
    let left : n - min (length xs) n ≡ n - length xs = omega arith in
    ap (λ zs. zs ++ take (n - min (length xs) n) ys) (take_least n xs)
    ∙ ap (λ k. take n xs ++ take k ys) left
    ∙ sym (take_both n xs ys)

-- the first n bytes of two slices
front_len : (n k : ℕ) (front : List ℕ) → k ≡ min (length front) n → length (take k front) ≡ k
front_len n k front is = omega (arith, is, length-take k front)

cut : (n k m : ℕ) (front back : List ℕ) → k ≡ min (length front) n → m ≡ n - length (take k front) → take k front ++ take m back ≡ take n (front ++ back)
cut n k m front back is left =
    let more : m ≡ n - min (length front) n = omega (arith, is, left, front_len n k front is) in
    ap (λ i. take i front ++ take m back) is
    ∙ ap (λ i. take (min (length front) n) front ++ take i back) more
    ∙ taken_both n front back

-- the symbols of the first n bytes, and the marks that are left
pub symbols_cut : (n k m : ℕ) (front back bytes : List ℕ) (marks : List Bool) → k ≡ min (length front) n → m ≡ n - length (take k front) → front ++ back ≡ bytes
    → marked_symbols (take k front) marks ++ marked_symbols (take m back) (drop (feeds (take k front)) marks) ≡ take n (marked_symbols bytes marks)
symbols_cut n k m front back bytes marks is left whole =
    sym (marked-both (take k front) (take m back) marks)
    ∙ ap (λ xs. marked_symbols xs marks) (cut n k m front back is left ∙ ap (take n) whole)
    ∙ sym (take-marked n bytes marks)

pub marks_cut : (n k m : ℕ) (front back bytes : List ℕ) (marks : List Bool) → k ≡ min (length front) n → m ≡ n - length (take k front) → front ++ back ≡ bytes
    → drop (feeds (take m back)) (drop (feeds (take k front)) marks) ≡ drop (feeds (take n bytes)) marks
marks_cut n k m front back bytes marks is left whole =
    drop-drop (feeds (take m back)) (feeds (take k front)) marks
    ∙ ap (λ i. drop i marks) (sym (feeds-append (take k front) (take m back)) ∙ ap feeds (cut n k m front back is left ∙ ap (take n) whole))

-- there are as many marks as line feeds still
pub marks_left : (n : ℕ) (bytes : List ℕ) (marks : List Bool) → length marks ≡ feeds bytes → length (drop (feeds (take n bytes)) marks) ≡ feeds (drop n bytes)
marks_left n bytes marks is =
    let parts : feeds bytes ≡ feeds (take n bytes) + feeds (drop n bytes) =
    ap feeds (sym (take-append-drop n bytes)) ∙ feeds-append (take n bytes) (drop n bytes) in
    omega (arith, is, parts, length-drop (feeds (take n bytes)) marks)

module _ (a b max k count : ℕ) (front back : List ℕ) (is : k ≡ min (length front) max) (long : count ≡ length (leading_bytes a b (take k front))) where
  -- a run that ends in the first slice
  pub copied_within : count < length (take k front) → leading_bytes a b (take k front) ≡ take max (leading_bytes a b (front ++ back))
  copied_within lt =
      let m = max - length (take k front) in
      sym (leading_within a b (take k front) (take m back) (omega (arith, lt, long)))
      ∙ ap (leading_bytes a b) (cut max k m front back is refl)
      ∙ leading-take a b max (front ++ back)

  -- a run that goes on in the second slice
  pub copied_beyond : (m : ℕ) → m ≡ min (length back) (max - count) → length (take k front) ≤ count
      → leading_bytes a b (take k front) ++ leading_bytes a b (take m back) ≡ take max (leading_bytes a b (front ++ back))
  copied_beyond m rest le =
      let same : count ≡ length (take k front) = omega (arith, le, long, leading-le a b (take k front)) in
      let less : max - count ≡ max - length (take k front) = ap (λ i. max - i) same in
      let far : take m back ≡ take (max - length (take k front)) back =
      ap (λ i. take i back) rest ∙ take_least (max - count) back ∙ ap (λ i. take i back) less in
      ap (λ xs. leading_bytes a b (take k front) ++ leading_bytes a b xs) far
      ∙ sym (leading_beyond a b (take k front) (take (max - length (take k front)) back) (omega (arith, le, long)))
      ∙ ap (leading_bytes a b) (cut max k (max - length (take k front)) front back is refl)
      ∙ leading-take a b max (front ++ back)

pub take_counted : (max count : ℕ) (xs : List ℕ) → count ≡ min max (length xs) → take max xs ≡ take count xs
take_counted max count xs is = sym (ap (λ i. take i xs) is ∙ take_min max xs)

-- a byte after the others, and its mark
pub feed_count : (bs : List ℕ) (ms : List Bool) (newline : Bool) (b : ℕ) → b ≡ 10 → length ms ≡ feeds bs → length (ms ++ newline ∷ []) ≡ feeds (bs ++ b ∷ [])
feed_count bs ms newline b is e = rw is (omega (arith, e, feeds-append bs (10 ∷ []), length-append ms (newline ∷ [])))

pub feed_marked : (bs : List ℕ) (ms : List Bool) (newline : Bool) (b : ℕ) → b ≡ 10 → length ms ≡ feeds bs
    → marked_symbols (bs ++ b ∷ []) (ms ++ newline ∷ []) ≡ marked_symbols bs ms ++ shown_byte newline b ∷ []
feed_marked bs ms newline b is e = rw is (marked-append (10 ∷ []) (newline ∷ []) bs ms e)

pub other_count : (bs : List ℕ) (ms : List Bool) (b : ℕ) → (b ≡ 10 → ⊥) → length ms ≡ feeds bs → length ms ≡ feeds (bs ++ b ∷ [])
other_count bs ms b other e = omega (arith, e, feeds-append bs (b ∷ []), feeds_other b other)

-- the fact of a push if there is room
pub pushed : {T E : Type 0} (r : Result T E) {P Room : Type 0} → (IsOk r ↔ Room) → OnOk r P → Room → P
pushed (Ok x) variant gives room = gives
pushed (Err e) variant gives room = let ok = variant.1 room in cc
