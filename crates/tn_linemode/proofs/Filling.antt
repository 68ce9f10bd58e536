-- An array into which octets are written, three at a time.
use Rattle.std.proofs.Common.{◌≡◌, ℕ, ◌+◌, ◌<◌, List, [], ◌∷◌, ◌++◌, length, take, get_or, slice_set, sym, ap, ◌∙◌, arith, append_assoc}
use Rattle.std.proofs.lemmas.{List.{length-set, take_more, flat_map_more}, Grind.take-set_at}
use Rattle.std.specs.List.{flat_map}
use Rattle.tn_codes.specs.{Payloads.octets_of, declared.triples.Triple.Triple}

pub length-three : (xs : List ℕ) (n a b c : ℕ) → length (slice_set (slice_set (slice_set xs n a) (n + 1) b) (n + 2) c) ≡ length xs
length-three xs n a b c =
    let one = slice_set xs n a in
    let two = slice_set one (n + 1) b in
    length-set two (n + 2) c ∙ length-set one (n + 1) b ∙ length-set xs n a

pub three_more : (xs : List ℕ) (n m a b c : ℕ) → m ≡ n + 3 → n + 2 < length xs
    → take m (slice_set (slice_set (slice_set xs n a) (n + 1) b) (n + 2) c) ≡ take n xs ++ a ∷ b ∷ c ∷ []
three_more xs n m a b c is room =
    let one = slice_set xs n a in
    let two = slice_set one (n + 1) b in
    let long_one : length one ≡ length xs = length-set xs n a in
    let long_two : length two ≡ length one = length-set one (n + 1) b in
    take-set_at two (n + 2) m c (omega (arith, is)) (omega (arith, room, long_one, long_two))
    ∙ ap (λ (ys : List ℕ). ys ++ c ∷ []) (take-set_at one (n + 1) (n + 2) b (omega arith) (omega (arith, room, long_one)))
    ∙ ap (λ (ys : List ℕ). (ys ++ b ∷ []) ++ c ∷ []) (take-set_at xs n (n + 1) a (omega arith) (omega (arith, room)))
    ∙ ap (λ (ys : List ℕ). ys ++ c ∷ []) (append_assoc (take n xs) (a ∷ []) (b ∷ []))
    ∙ append_assoc (take n xs) (a ∷ b ∷ []) (c ∷ [])

pub octets_more : (triples : List Triple) (i : ℕ) (d : Triple) → i < length triples
    → flat_map octets_of (take i triples) ++ octets_of (get_or triples i d) ≡ flat_map octets_of (take (i + 1) triples)
octets_more triples i d within =
    flat_map_more octets_of [] (take i triples) (get_or triples i d) ∙ ap (λ (ts : List Triple). flat_map octets_of ts) (sym (take_more triples i d within))
