-- A list cut at an index: the rest of a piece, a prefix of that, and its first byte.
use Rattle.std.proofs.Common.{◌≡◌, ℕ, ◌-◌, ◌+◌, ◌≤◌, All, List, [], ◌++◌, take, drop, get_or, length, refl, sym, ◌∙◌, arith, ◌∷◌, ◌<◌, length-drop}
use Rattle.std.proofs.{Common.{length-take-le, take-append-drop, drop-drop}, lemmas.List.take_all, Math.Seq.take-add}
use Rattle.tn_nvt.specs.Sinks.{IsPlain, IsRun}

-- the rest at an index
abbrev pub rest_of : List ℕ → ℕ → List ℕ
rest_of xs i = take (length xs - i) (drop i xs)

pub rest_is : (xs : List ℕ) (i : ℕ) → rest_of xs i ≡ drop i xs
rest_is xs i = take_all (length xs - i) (drop i xs) (omega (arith, length-drop i xs))

pub front_is : (xs : List ℕ) (i n : ℕ) → take (i + n) xs ≡ take i xs ++ take n (rest_of xs i)
front_is xs i n = rw (rest_is xs i) (take-add i n xs)

pub back_is : (xs : List ℕ) (i n : ℕ) → drop (i + n) xs ≡ drop n (rest_of xs i)
back_is xs i n = rw (rest_is xs i) (sym (drop-drop n i xs))

pub whole_is : (xs : List ℕ) (i n : ℕ) → xs ≡ (take i xs ++ take n (rest_of xs i)) ++ drop n (rest_of xs i)
whole_is xs i n = rw (← front_is xs i n, ← back_is xs i n) (sym (take-append-drop (i + n) xs))

pub within_is : (xs : List ℕ) (i n : ℕ) → i ≤ length xs → n ≤ length (rest_of xs i) → i + n ≤ length xs
within_is xs i n low high =
    let h = rw (rest_is xs i) at high in
    omega (arith, length-drop i xs)

pub parts_is : (xs : List ℕ) (i n : ℕ) → drop i xs ≡ take n (rest_of xs i) ++ drop n (rest_of xs i)
parts_is xs i n = sym (rest_is xs i) ∙ sym (take-append-drop n (rest_of xs i))

pub split_is : (xs : List ℕ) (i : ℕ) → take i xs ++ rest_of xs i ≡ xs
split_is xs i = rw (rest_is xs i) (take-append-drop i xs)

pub run_is : (rest : List ℕ) (n : ℕ) → 0 < n → n ≤ length rest → All IsPlain (take n rest) → IsRun (take n rest)
run_is rest n some within plain = record { some = omega (arith, length-take-le n rest within); plain = plain }

none_below : 0 < 0 → ⊥
none_below h = omega arith

-- the first byte
pub one_front : (xs : List ℕ) → 0 < length xs → take 1 xs ≡ get_or xs 0 0 ∷ []
one_front [] some = absurd (none_below some)
one_front (x ∷ xs) some = refl

-- a list with something in it is its first byte and the others
pub first_and : (xs : List ℕ) → 0 < length xs → xs ≡ get_or xs 0 0 ∷ drop 1 xs
first_and [] some = absurd (none_below some)
first_and (x ∷ xs) some = refl
