-- Bytes that are cut into pieces of one size.
use Rattle.std.proofs.Common.{◌≡◌, ℕ, zero, suc, ◌<◌, ◌≤◌, List, [], ◌∷◌, ◌++◌, length, take, drop, refl, ap, arith, length-append, length-drop}
use Rattle.std.proofs.lemmas.List.{take_at, drop_at, take_all, drop_all}
use Rattle.tn_net.specs.printing.Lines.{first_pieces, pieces_of}

-- a larger count gives no more pieces than there are
enough : (size n m : ℕ) (xs : List ℕ) → 0 < size → length xs ≤ n → length xs ≤ m → first_pieces size n xs ≡ first_pieces size m xs
unfolding first_pieces
enough size zero zero xs some p q = refl
enough size zero (suc m) [] some p q = refl
enough size zero (suc m) (b ∷ bs) some p q = absurd (omega arith)
enough size (suc n) zero [] some p q = refl
enough size (suc n) zero (b ∷ bs) some p q = absurd (omega arith)
enough size (suc n) (suc m) [] some p q = refl
enough size (suc n) (suc m) (b ∷ bs) some p q =
    let rest = drop size (b ∷ bs) in
    ap (λ (ys : List (List ℕ)). take size (b ∷ bs) ∷ ys) (enough size n m rest some (omega (arith, length-drop size (b ∷ bs)))
    (omega (arith, length-drop size (b ∷ bs))))

pieces_none : (size n : ℕ) → first_pieces size n [] ≡ []
unfolding first_pieces
pieces_none size zero = refl
pieces_none size (suc n) = refl

-- a whole piece first
pub pieces_first : (size b : ℕ) (bs ys : List ℕ) → length (b ∷ bs) ≡ size → pieces_of size ((b ∷ bs) ++ ys) ≡ (b ∷ bs) ∷ pieces_of size ys
unfolding first_pieces
pieces_first size b bs ys len =
    let front = take_at (b ∷ bs) ys size len in
    let back = drop_at (b ∷ bs) ys size len in
    let rest : first_pieces size (length (bs ++ ys)) ys ≡ pieces_of size ys =
    enough size (length (bs ++ ys)) (length ys) ys (omega arith) (omega (arith, length-append bs ys)) (omega arith) in
    rw (front, back) (ap (λ (zs : List (List ℕ)). (b ∷ bs) ∷ zs) rest)

-- no more than one piece
pub pieces_one : (size b : ℕ) (bs : List ℕ) → length (b ∷ bs) ≤ size → pieces_of size (b ∷ bs) ≡ (b ∷ bs) ∷ []
unfolding first_pieces
pieces_one size b bs len =
    let front = take_all size (b ∷ bs) len in
    let back = drop_all size (b ∷ bs) len in
    rw (front, back) (ap (λ (zs : List (List ℕ)). (b ∷ bs) ∷ zs) (pieces_none size (length bs)))
