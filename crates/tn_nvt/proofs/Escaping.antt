-- The first bytes of an escape, one after another.
use Rattle.std.proofs.{Common.{ℕ, ◌+◌, ◌<◌, List, [], ◌∷◌, length, take, get_or, arith}, lemmas.List.take_more}
use Rattle.tn_nvt.specs.{declared.items.Item.Item, Machine.{Gathered, Progress, Outside, Inside, InsideIac, StepAdvances}, Runs.KeepsFront}
use Rattle.tn_nvt.proofs.Steps.{StepAdvances-append, inside_iac}

one_below : 1 < 0 → ⊥
one_below h = omega arith

not_itself : 1 < 1 → ⊥
not_itself h = omega arith

two_below : 2 < 0 → ⊥
two_below h = omega arith

two_below_one : 2 < 1 → ⊥
two_below_one h = omega arith

two_not_itself : 2 < 2 → ⊥
two_not_itself h = omega arith

pub then_second : (xs : List ℕ) (middle next : Progress) (items : List Item) → 1 < length xs → StepAdvances Outside (get_or xs 0 0 ∷ []) [] middle
    → StepAdvances middle (get_or xs 1 0 ∷ []) items next → StepAdvances Outside (take 2 xs) items next
then_second [] middle next items more f g = absurd (one_below more)
then_second (x ∷ []) middle next items more f g = absurd (not_itself more)
then_second (x ∷ y ∷ xs) middle next items more f g = StepAdvances-append Outside middle next (x ∷ []) (y ∷ []) [] items f g

pub then_third : (xs : List ℕ) (first middle next : Progress) (items : List Item) → 2 < length xs → StepAdvances Outside (get_or xs 0 0 ∷ []) [] first
    → StepAdvances first (get_or xs 1 0 ∷ []) [] middle → StepAdvances middle (get_or xs 2 0 ∷ []) items next
    → StepAdvances Outside (take 3 xs) items next
then_third [] first middle next items more f g h = absurd (two_below more)
then_third (x ∷ []) first middle next items more f g h = absurd (two_below_one more)
then_third (x ∷ y ∷ []) first middle next items more f g h = absurd (two_not_itself more)
then_third (x ∷ y ∷ z ∷ xs) first middle next items more f g h =
    StepAdvances-append Outside middle next (x ∷ y ∷ []) (z ∷ []) [] items (StepAdvances-append Outside first middle (x ∷ []) (y ∷ []) [] [] f g) h

-- the bytes that are kept of a subnegotiation, and the IAC after them
pub kept_then_iac : (old new : Gathered) (xs : List ℕ) (n : ℕ) → n < length xs → KeepsFront old xs n new
    → StepAdvances (Inside old) (take (n + 1) xs) [] (InsideIac new)
kept_then_iac old new xs n lt k =
    rw (take_more xs n 0 lt) (StepAdvances-append (Inside old) (Inside new) (InsideIac new) (take n xs) (get_or xs n 0 ∷ []) [] [] k.advances
    (inside_iac new (get_or xs n 0) (k.ends lt)))
