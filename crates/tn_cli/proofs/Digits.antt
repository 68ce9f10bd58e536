-- Bytes in hexadecimal, one after another.
use Rattle.std.proofs.Common.{◌≡◌, ◌<◌, ℕ, ◌+◌, ◌/◌, ◌%◌, List, [], ◌∷◌, ◌++◌, codes, Result, Ok, Err, IsOk, is_ok, if◌then◌else◌, length, take, get_or}
use Rattle.std.proofs.{Common.{slice_index, refl, sym, ap, ◌∙◌, append-nil, append_assoc}, lemmas.List.take_more}
use Rattle.hex.specs.Hex.{encode_with}

encode-append : (t xs ys : List ℕ) → encode_with t (xs ++ ys) ≡ encode_with t xs ++ encode_with t ys
unfolding encode_with
encode-append t [] ys = refl
encode-append t (x ∷ xs) ys = ap (λ zs. slice_index t (x / 16) ∷ slice_index t (x % 16) ∷ zs) (encode-append t xs ys)

encode-one : (t : List ℕ) (x : ℕ) → encode_with t (x ∷ []) ≡ slice_index t (x / 16) ∷ slice_index t (x % 16) ∷ []
unfolding encode_with
encode-one t x = refl

-- a digit that was appended
pub digit_put : (before after : List ℕ) (digit is : ℕ) → after ≡ before ++ digit ∷ [] → digit ≡ is → after ≡ before ++ is ∷ []
digit_put before after digit is put same = put ∙ ap (λ d. before ++ d ∷ []) same

-- the content if a call went well
pub where_ok : {E : Type 0} (r : Result (Unit {0}) E) (x there other : List ℕ) → IsOk r → x ≡ (if is_ok r then there else other) → x ≡ there
where_ok (Ok u) x there other ok is = is
where_ok (Err e) x there other ok is = cc

-- the line of a text, digit by digit
pub text_line : (t bytes start begun middle high low whole : List ℕ) (x : ℕ) → begun ≡ start ++ codes "text " → middle ≡ begun ++ encode_with t bytes
    → high ≡ middle ++ slice_index t (x / 16) ∷ [] → low ≡ high ++ slice_index t (x % 16) ∷ [] → whole ≡ low ++ codes "\n"
    → whole ≡ start ++ (codes "text " ++ (encode_with t (bytes ++ x ∷ []) ++ codes "\n"))
text_line t bytes start begun middle high low whole x a b c d e =
    let h = slice_index t (x / 16) in
    let l = slice_index t (x % 16) in
    let ds = encode_with t bytes in
    let all : encode_with t (bytes ++ x ∷ []) ≡ ds ++ h ∷ l ∷ [] = encode-append t bytes (x ∷ []) ∙ ap (λ zs. ds ++ zs) (encode-one t x) in
    e
    ∙ ap (λ zs. zs ++ codes "\n") (d ∙ ap (λ zs. zs ++ l ∷ []) c ∙ append_assoc middle (h ∷ []) (l ∷ []))
    ∙ append_assoc middle (h ∷ l ∷ []) (codes "\n")
    ∙ ap (λ zs. zs ++ h ∷ l ∷ codes "\n") (b ∙ ap (λ zs. zs ++ ds) a ∙ append_assoc start (codes "text ") ds)
    ∙ append_assoc start (codes "text " ++ ds) (h ∷ l ∷ codes "\n")
    ∙ ap (λ zs. start ++ zs) (append_assoc (codes "text ") ds (h ∷ l ∷ codes "\n"))
    ∙ ap (λ zs. start ++ (codes "text " ++ zs)) (sym (append_assoc ds (h ∷ l ∷ []) (codes "\n")) ∙ ap (λ zs. zs ++ codes "\n") (sym all))

-- no byte has no digit
pub digits_none : (t start : List ℕ) → start ≡ start ++ encode_with t []
unfolding encode_with
digits_none t start = sym (append-nil start)

-- a step of a loop over bytes
pub digits_more : (t bytes start before mid after : List ℕ) (i : ℕ) → i < length bytes → before ≡ start ++ encode_with t (take i bytes)
    → mid ≡ before ++ slice_index t (get_or bytes i 0 / 16) ∷ [] → after ≡ mid ++ slice_index t (get_or bytes i 0 % 16) ∷ []
    → after ≡ start ++ encode_with t (take (i + 1) bytes)
digits_more t bytes start before mid after i within so high low =
    let x = get_or bytes i 0 in
    let more : encode_with t (take (i + 1) bytes) ≡ encode_with t (take i bytes) ++ slice_index t (x / 16) ∷ slice_index t (x % 16) ∷ [] =
    ap (encode_with t) (take_more bytes i 0 within) ∙ encode-append t (take i bytes) (x ∷ []) ∙ ap (λ zs. encode_with t (take i bytes) ++ zs) (encode-one t x)
    in
    low
    ∙ ap (λ zs. zs ++ slice_index t (x % 16) ∷ []) (high ∙ ap (λ zs. zs ++ slice_index t (x / 16) ∷ []) so)
    ∙ append_assoc (start ++ encode_with t (take i bytes)) (slice_index t (x / 16) ∷ []) (slice_index t (x % 16) ∷ [])
    ∙ append_assoc start (encode_with t (take i bytes)) (slice_index t (x / 16) ∷ slice_index t (x % 16) ∷ [])
    ∙ ap (λ zs. start ++ zs) (sym more)
