-- A number is read digit by digit.
use Rattle.std.proofs.{Common.{◌≡◌, ◌<◌, ◌≤◌, ◌+◌, ℕ, List, [], ◌∷◌, Option, Some, ap, drop, length, refl, ◌∙◌}, lemmas.List.{drop_all, drop_more}}
use Rattle.tn_net.specs.Sizes.{number_from, with_digit}
use lib.ListN.{get_or}

more : (n m c : ℕ) (cs : List ℕ) → with_digit n c ≡ Some m → number_from (Some n) (c ∷ cs) ≡ number_from (Some m) cs
unfolding number_from
more n m c cs e = ap (λ (o : Option ℕ). number_from o cs) e

none : (n : ℕ) → number_from (Some n) [] ≡ Some n
unfolding number_from
none n = refl

pub reads_on : (xs : List ℕ) (i n m : ℕ) → i < length xs → with_digit n (get_or xs i 0) ≡ Some m
    → number_from (Some n) (drop i xs) ≡ number_from (Some m) (drop (i + 1) xs)
reads_on xs i n m short e = ap (λ (l : List ℕ). number_from (Some n) l) (drop_more xs i 0 short) ∙ more n m (get_or xs i 0) (drop (i + 1) xs) e

pub all_read : (xs : List ℕ) (i n : ℕ) → length xs ≤ i → number_from (Some n) (drop i xs) ≡ Some n
all_read xs i n over = ap (λ (l : List ℕ). number_from (Some n) l) (drop_all i xs over) ∙ none n
