-- The two digits of each byte, in a table.
use Rattle.std.proofs.Common.{◌≡◌, ◌<◌, ℕ, ◌+◌, ◌*◌, ◌/◌, ◌%◌, zero, suc, List, [], ◌∷◌, codes, length, slice_index, refl, sym, ap, ◌∙◌, arith}
use Rattle.hex.specs.Hex.{encode_with, lower_digits}

-- a row of this many numbers, from this one on
abbrev counted : ℕ → ℕ → List ℕ
counted n zero = []
counted n (suc k) = n ∷ counted (suc n) k

counted_length : (n k : ℕ) → length (counted n k) ≡ k
counted_length n zero = refl
counted_length n (suc k) = ap suc (counted_length (suc n) k)

counted_at : (n k i : ℕ) → i < k → slice_index (counted n k) i ≡ n + i
counted_at n zero i within = absurd (omega (arith, within))
counted_at n (suc k) zero within = omega arith
counted_at n (suc k) (suc i) within = counted_at (suc n) k i (omega (arith, within)) ∙ omega arith

byte_at : (byte : ℕ) → byte < 256 → slice_index (counted 0 256) byte ≡ byte
byte_at byte within = counted_at 0 256 byte within ∙ omega arith

high_at : (t xs : List ℕ) (i : ℕ) → i < length xs → slice_index (encode_with t xs) (2 * i) ≡ slice_index t (slice_index xs i / 16)
unfolding encode_with
high_at t [] i within = absurd (omega (arith, within))
high_at t (x ∷ xs) zero within = refl
high_at t (x ∷ xs) (suc i) within =
    let next : 2 * suc i ≡ suc (suc (2 * i)) = omega arith in
    rw next (high_at t xs i (omega (arith, within)))

low_at : (t xs : List ℕ) (i : ℕ) → i < length xs → slice_index (encode_with t xs) (2 * i + 1) ≡ slice_index t (slice_index xs i % 16)
unfolding encode_with
low_at t [] i within = absurd (omega (arith, within))
low_at t (x ∷ xs) zero within = refl
low_at t (x ∷ xs) (suc i) within =
    let next : 2 * suc i + 1 ≡ suc (suc (2 * i + 1)) = omega arith in
    rw next (low_at t xs i (omega (arith, within)))

-- the table
abbrev pub table : List ℕ
table = codes
    "000102030405060708090a0b0c0d0e0f101112131415161718191a1b1c1d1e1f202122232425262728292a2b2c2d2e2f303132333435363738393a3b3c3d3e3f404142434445464748494a4b4c4d4e4f505152535455565758595a5b5c5d5e5f606162636465666768696a6b6c6d6e6f707172737475767778797a7b7c7d7e7f808182838485868788898a8b8c8d8e8f909192939495969798999a9b9c9d9e9fa0a1a2a3a4a5a6a7a8a9aaabacadaeafb0b1b2b3b4b5b6b7b8b9babbbcbdbebfc0c1c2c3c4c5c6c7c8c9cacbcccdcecfd0d1d2d3d4d5d6d7d8d9dadbdcdddedfe0e1e2e3e4e5e6e7e8e9eaebecedeeeff0f1f2f3f4f5f6f7f8f9fafbfcfdfeff"

table_is : encode_with lower_digits (counted 0 256) ≡ table
unfolding encode_with
table_is = refl

pub table_high : (byte : ℕ) → byte < 256 → slice_index table (2 * byte) ≡ slice_index lower_digits (byte / 16)
table_high byte within =
    ap (λ t. slice_index t (2 * byte)) (sym table_is)
    ∙ high_at lower_digits (counted 0 256) byte (omega (arith, within, counted_length 0 256))
    ∙ ap (λ n. slice_index lower_digits (n / 16)) (byte_at byte within)

pub table_low : (byte : ℕ) → byte < 256 → slice_index table (2 * byte + 1) ≡ slice_index lower_digits (byte % 16)
table_low byte within =
    ap (λ t. slice_index t (2 * byte + 1)) (sym table_is)
    ∙ low_at lower_digits (counted 0 256) byte (omega (arith, within, counted_length 0 256))
    ∙ ap (λ n. slice_index lower_digits (n % 16)) (byte_at byte within)
