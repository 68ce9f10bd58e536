-- A number that is read digit by digit.
use Rattle.std.proofs.Common.{◌≡◌, ◌≤◌, ◌<◌, ◌+◌, ◌-◌, ◌*◌, ◌&&◌, nat_le, ℕ, List, [], ◌∷◌, true, false, Some, None, if◌then◌else◌, length, drop, get_or, refl}
use Rattle.std.proofs.{Common.{ap, ◌∙◌, arith, drop-cons, suc}, lemmas.Bool.Decides.nat_tests}
use Rattle.std.specs.{Char.{is_ascii_digit, digit_value}, Str.{all_ascii_digits, Parse.{digits_value, digits_value_after}}}
use Rattle.tn_cli.specs.Scripts.{number_within}

pub number_is_beyond : (most : ℕ) (word : List ℕ) → most < digits_value 10 word → number_within most word ≡ None
number_is_beyond most [] beyond = refl
number_is_beyond most (c ∷ cs) beyond =
    let no : nat_le (digits_value 10 (c ∷ cs)) most ≡ false = grind (arith, nat_tests) in
    elim (all_ascii_digits (c ∷ cs)) as (λ digits. (if digits && nat_le (digits_value 10 (c ∷ cs)) most then Some (digits_value 10 (c ∷ cs)) else None) ≡ None)
    [ true ↦ rw no refl | false ↦ refl ]

-- more digits never spell less
pub digits_value_after-ge : (n : ℕ) (cs : List ℕ) → n ≤ digits_value_after 10 n cs
digits_value_after-ge n [] = omega arith
digits_value_after-ge n (c ∷ cs) = let more : n * 10 + digit_value c ≤ digits_value_after 10 (n * 10 + digit_value c) cs =
    digits_value_after-ge (n * 10 + digit_value c) cs in omega arith

pub digit_value_is : (c : ℕ) → is_ascii_digit c ≡ true → digit_value c ≡ c - 48
digit_value_is c digit = grind (arith, nat_tests)

-- a digit that takes the number so far beyond a limit takes the whole number beyond it
pub beyond_digit : (most number i : ℕ) (word : List ℕ) → i < length word → is_ascii_digit (get_or word i 0) ≡ true
    → digits_value 10 word ≡ digits_value_after 10 number (drop i word) → most < number * 10 + (get_or word i 0 - 48) → most < digits_value 10 word
beyond_digit most number i word within digit value beyond =
    let next : digits_value 10 word ≡ digits_value_after 10 (number * 10 + digit_value (get_or word i 0)) (drop (suc i) word) =
    value ∙ ap (λ (cs : List ℕ). digits_value_after 10 number cs) (drop-cons word i 0 within) in
    omega (arith, next, digits_value_after-ge (number * 10 + digit_value (get_or word i 0)) (drop (suc i) word), digit_value_is (get_or word i 0) digit)
