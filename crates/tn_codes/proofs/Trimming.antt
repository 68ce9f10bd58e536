-- A mask without the zeros at its end is the mask again, and the parameters that are written encode their
-- payload.
use Rattle.std.proofs.Common.{◌≡◌, ◌≢◌, ℕ, suc, ◌+◌, ◌<◌, take, get_or, ◌-◌, inl, inr, List, [], ◌∷◌, ◌++◌, length, replicate, refl, sym, ◌∙◌, ap, arith}
use Rattle.std.proofs.{Common.length-append, lemmas.{List.{length-replicate, take_more}, Nat.from_be_bytes-to_be_bytes_2, Bool.{ne_eqb, Decides.eqb_tells}}}
use Rattle.tn_codes.specs.declared.payloads.Payload.{Payload, TheVariants.{Naws, Mode, ForwardOn, ForwardOff, ForwardYes, ForwardNo, Slc}}
use Rattle.tn_codes.specs.{Masks.{before, filled_octets, trimmed_octets}, Payloads.{Says, Fits, option_of, parameters_of}}
use Rattle.tn_codes.proofs.lemmas.Masks.{length-trimmed}

pub trimmed_none : trimmed_octets [] ≡ []
unfolding trimmed_octets
trimmed_none = refl

before_more : (b x : ℕ) (xs : List ℕ) → before b (xs ++ x ∷ []) ≡ b ∷ (xs ++ x ∷ [])
before_more b x [] = refl
before_more b x (y ∷ ys) = refl

pub trimmed_push : (xs : List ℕ) (b : ℕ) → b ≢ 0 → trimmed_octets (xs ++ b ∷ []) ≡ xs ++ b ∷ []
unfolding trimmed_octets
trimmed_push [] b h = rw (ne_eqb b 0 h) refl
trimmed_push (x ∷ xs) b h = rw (trimmed_push xs b h) (before_more x b xs)

pub trimmed_push_zero : (xs : List ℕ) → trimmed_octets (xs ++ 0 ∷ []) ≡ trimmed_octets xs
unfolding trimmed_octets
trimmed_push_zero [] = refl
trimmed_push_zero (x ∷ xs) = ap (before x) (trimmed_push_zero xs)

-- one octet more
pub trimmed_more : (xs : List ℕ) (i : ℕ) → i < length xs → get_or xs i 0 ≢ 0 → trimmed_octets (take (i + 1) xs) ≡ take (i + 1) xs
trimmed_more xs i lt differs = rw (take_more xs i 0 lt) (trimmed_push (take i xs) (get_or xs i 0) differs)

pub trimmed_more_zero : (xs : List ℕ) (i : ℕ) → i < length xs → get_or xs i 0 ≡ 0 → trimmed_octets (take (i + 1) xs) ≡ trimmed_octets (take i xs)
trimmed_more_zero xs i lt zero = rw (take_more xs i 0 lt, zero) (trimmed_push_zero (take i xs))

before_zeros : (b : ℕ) (xs : List ℕ) (n : ℕ) → (m : ℕ) × (b ∷ (xs ++ replicate n 0) ≡ before b xs ++ replicate m 0)
before_zeros b [] n = elim (eqb_tells b 0) [
  | inl e ↦ let is : b ≡ 0 = e.1 in (suc n, rw is refl)
  | inr e ↦ let differs : b ≢ 0 = e.1
      in (n, rw (ne_eqb b 0 differs) refl)
]
before_zeros b (x ∷ xs) n = (n, refl)

zeros_after : (xs : List ℕ) → (n : ℕ) × (xs ≡ trimmed_octets xs ++ replicate n 0)
unfolding trimmed_octets
zeros_after [] = (0, refl)
zeros_after (x ∷ xs) =
    let rest = zeros_after xs in
    let more = before_zeros x (trimmed_octets xs) rest.0 in
    (more.0, ap (λ ys. x ∷ ys) rest.1 ∙ more.1)

pub filled_trimmed : (octets : List ℕ) → length octets ≡ 32 → octets ≡ filled_octets (trimmed_octets octets)
filled_trimmed octets h =
    let zeros = zeros_after octets in
    let count : zeros.0 ≡ 32 - length (trimmed_octets octets) = omega
    (arith, ap length zeros.1, length-append (trimmed_octets octets) (replicate zeros.0 0), length-replicate {A = ℕ} zeros.0 0) in
    zeros.1 ∙ ap (λ n. trimmed_octets octets ++ replicate n 0) count

pub written_is_said : (payload : Payload) → Fits payload → Says (option_of payload) (parameters_of payload) payload
written_is_said (Naws width height) fits = (refl, refl, sym (from_be_bytes-to_be_bytes_2 width fits.0), sym (from_be_bytes-to_be_bytes_2 height fits.1))
written_is_said (Mode mask) fits = (refl, refl)
written_is_said (ForwardOn mask) fits = (refl, (trimmed_octets mask.0, refl, omega (arith, length-trimmed mask.0), filled_trimmed mask.0 fits))
written_is_said ForwardOff fits = (refl, refl)
written_is_said ForwardYes fits = (refl, refl)
written_is_said ForwardNo fits = (refl, refl)
written_is_said (Slc triples) fits = (refl, refl)
