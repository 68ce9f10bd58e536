-- The first two bytes of a service come in pieces.
use Rattle.std.proofs.Common.{◌≡◌, ◌≤◌, ◌<◌, ℕ, Bool, true, false, not, ◌&&◌, List, [], ◌∷◌, ◌++◌, length, get_or, refl, sym, ap, ◌∙◌, subst, append-nil, arith}
use Rattle.std.proofs.Common.{Option, Some, None, option_map, ◌+◌}
use Rattle.tn_lines.specs.{Openings.{Hears, Listens, Rises, is_option, negotiates, opening_of, warned_on, warnings_if}, declared.opening.Opening.Opening}
use Rattle.tn_lines.specs.declared.opening.Opening.TheVariants.{Nothing, First, Both}

abbrev count : Opening → ℕ
count Nothing = 0
count (First byte) = 1
count Both = 2

counted : (a b : Opening) → a ≡ b → count a ≡ count b
counted a b same = ap count same

abbrev first_in : Opening → ℕ
first_in Nothing = 0
first_in (First byte) = byte
first_in Both = 0

never_both : (b : Bool) → false ≡ (b && not b)
never_both true = refl
never_both false = refl

whole : (b : Bool) → b ≡ (b && not false)
whole true = refl
whole false = refl

pub hears_none : (old : Opening) (bytes : List ℕ) → length bytes < 1 → Hears old bytes false old
hears_none old [] short = record {
  leads = λ before had. had ∙ ap opening_of (sym (append-nil before));
  told = λ before had. never_both (negotiates before) ∙ ap (λ (l : List ℕ). negotiates l && not (negotiates before)) (sym (append-nil before));
}
hears_none old (byte ∷ bytes) short = absurd (omega arith)

-- nothing came before
module _ (bytes : List ℕ) (shows : Bool) (new : Opening) (leads : new ≡ opening_of bytes) (told : shows ≡ (negotiates bytes && not false)) where
  leads_at : (before : List ℕ) → Nothing ≡ opening_of before → new ≡ opening_of (before ++ bytes)
  leads_at [] had = leads
  leads_at (x ∷ []) had = let bad : 0 ≡ 1 = counted Nothing (First x) had in absurd (omega (arith, bad))
  leads_at (x ∷ y ∷ before) had = let bad : 0 ≡ 2 = counted Nothing Both had in absurd (omega (arith, bad))

  told_at : (before : List ℕ) → Nothing ≡ opening_of before → shows ≡ (negotiates (before ++ bytes) && not (negotiates before))
  told_at [] had = told
  told_at (x ∷ []) had = let bad : 0 ≡ 1 = counted Nothing (First x) had in absurd (omega (arith, bad))
  told_at (x ∷ y ∷ before) had = let bad : 0 ≡ 2 = counted Nothing Both had in absurd (omega (arith, bad))

  first_heard : Hears Nothing bytes shows new
  first_heard = record { leads = leads_at; told = told_at }

pub hears_one : (bytes : List ℕ) → 1 ≤ length bytes → length bytes < 2 → Hears Nothing bytes false (First (get_or bytes 0 0))
hears_one [] some short = absurd (omega arith)
hears_one (x ∷ []) some short = first_heard (x ∷ []) false (First x) refl refl
hears_one (x ∷ y ∷ bytes) some short = absurd (omega arith)

pub hears_two : (bytes : List ℕ) → 2 ≤ length bytes → Hears Nothing bytes (is_option (get_or bytes 0 0) (get_or bytes 1 0)) Both
hears_two [] some = absurd (omega arith)
hears_two (x ∷ []) some = absurd (omega arith)
hears_two (x ∷ y ∷ bytes) some = first_heard (x ∷ y ∷ bytes) (is_option x y) Both refl (whole (is_option x y))

-- one byte came before
second_leads : (first x : ℕ) (bytes before : List ℕ) → First first ≡ opening_of before → Both ≡ opening_of (before ++ x ∷ bytes)
second_leads first x bytes [] had = let bad : 1 ≡ 0 = counted (First first) Nothing had in absurd (omega (arith, bad))
second_leads first x bytes (y ∷ []) had = refl
second_leads first x bytes (y ∷ z ∷ before) had = let bad : 1 ≡ 2 = counted (First first) Both had in absurd (omega (arith, bad))

second_told : (first x : ℕ) (bytes before : List ℕ) → First first ≡ opening_of before
    → is_option first x ≡ (negotiates (before ++ x ∷ bytes) && not (negotiates before))
second_told first x bytes [] had = let bad : 1 ≡ 0 = counted (First first) Nothing had in absurd (omega (arith, bad))
second_told first x bytes (y ∷ []) had =
    let same : first ≡ y = ap first_in had in
    ap (λ (n : ℕ). is_option n x) same ∙ whole (is_option y x)
second_told first x bytes (y ∷ z ∷ before) had = let bad : 1 ≡ 2 = counted (First first) Both had in absurd (omega (arith, bad))

pub hears_second : (first : ℕ) (bytes : List ℕ) → 1 ≤ length bytes → Hears (First first) bytes (is_option first (get_or bytes 0 0)) Both
hears_second first [] some = absurd (omega arith)
hears_second first (x ∷ bytes) some = record { leads = second_leads first x bytes; told = second_told first x bytes }

-- both bytes came before
both_leads : (bytes before : List ℕ) → Both ≡ opening_of before → Both ≡ opening_of (before ++ bytes)
both_leads bytes [] had = let bad : 2 ≡ 0 = counted Both Nothing had in absurd (omega (arith, bad))
both_leads bytes (x ∷ []) had = let bad : 2 ≡ 1 = counted Both (First x) had in absurd (omega (arith, bad))
both_leads bytes (x ∷ y ∷ before) had = refl

both_told : (bytes before : List ℕ) → Both ≡ opening_of before → false ≡ (negotiates (before ++ bytes) && not (negotiates before))
both_told bytes [] had = let bad : 2 ≡ 0 = counted Both Nothing had in absurd (omega (arith, bad))
both_told bytes (x ∷ []) had = let bad : 2 ≡ 1 = counted Both (First x) had in absurd (omega (arith, bad))
both_told bytes (x ∷ y ∷ before) had = never_both (is_option x y)

pub hears_no_more : (bytes : List ℕ) → Hears Both bytes false Both
hears_no_more bytes = record { leads = both_leads bytes; told = both_told bytes }

-- WARNINGS

pub rises_none : (told : Option ℕ) → Rises told told 0
rises_none None = tt
rises_none (Some n) = omega arith

rises_one : (first now : Option ℕ) → Rises first now 0 → Rises first (option_map (λ n. n + 1) now) 1
rises_one None now had = tt
rises_one (Some x) None had = absurd had
rises_one (Some x) (Some y) had = omega (arith, had)

-- bytes that show it once go on to show it
still : (before bytes : List ℕ) → negotiates before ≡ true → negotiates (before ++ bytes) ≡ true
still [] bytes is = let bad : false ≡ true = is in absurd (cc)
still (x ∷ []) bytes is = let bad : false ≡ true = is in absurd (cc)
still (x ∷ y ∷ before) bytes is = is

rises_by : (first now : Option ℕ) (shows was is : Bool) → (was ≡ true → is ≡ true) → shows ≡ (is && not was) → Rises first now (warnings_if was)
    → Rises first (warned_on shows now) (warnings_if is)
rises_by first now true true true goes_on told had = let bad : true ≡ false = told in absurd (cc)
rises_by first now true true false goes_on told had = let bad : true ≡ false = told in absurd (cc)
rises_by first now true false true goes_on told had = rises_one first now had
rises_by first now true false false goes_on told had = let bad : true ≡ false = told in absurd (cc)
rises_by first now false true true goes_on told had = had
rises_by first now false true false goes_on told had = let bad : false ≡ true = goes_on refl in absurd (cc)
rises_by first now false false true goes_on told had = let bad : false ≡ true = told in absurd (cc)
rises_by first now false false false goes_on told had = had

pub rises_more : (first now tells : Option ℕ) (before bytes : List ℕ) (old new : Opening) → Listens bytes old now new tells → old ≡ opening_of before
    → Rises first now (warnings_if (negotiates before)) → Rises first tells (warnings_if (negotiates (before ++ bytes)))
rises_more first now tells before bytes old new listens leads had =
    subst (λ (t : Option ℕ). Rises first t (warnings_if (negotiates (before ++ bytes)))) (sym listens.warns)
    (rises_by first now listens.shows (negotiates before) (negotiates (before ++ bytes)) (still before bytes) (listens.hears.told before leads) had)
