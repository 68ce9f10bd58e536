-- Parameters encode one payload, or have one fault.
use Rattle.std.proofs.Common.{◌≡◌, ℕ, ◌*◌, ◌%◌, ◌<◌, ◌≤◌, inl, inr, List, [], ◌∷◌, length, flat_map, refl, ap, subst, arith}
use Rattle.tn_codes.specs.declared.{codes.Verb.{Verb, TheVariants.{Will, Wont, DoIt, DontIt}}, payloads.Payload.Payload, triples.Triple.Triple}
use Rattle.tn_codes.specs.{declared.payloads.Payload.TheVariants.{Naws, Mode, ForwardOn, ForwardOff, ForwardYes, ForwardNo, Slc}, Codes.verb_code}
use Rattle.tn_codes.specs.Payloads.{octets_of, mask_limit, Says, IsUnknownOption, IsUnknownKind, IsUnknownSub, HasBadForwardLength, HasBadLinemodeLength}
use Rattle.tn_codes.specs.Payloads.{HasBadLength, TakesMemory}

pub verb_high : (v : Verb) → 250 < verb_code v
verb_high Will = omega arith
verb_high Wont = omega arith
verb_high DoIt = omega arith
verb_high DontIt = omega arith

pub length-octets : (ts : List Triple) → length (flat_map octets_of ts) ≡ 3 * length ts
length-octets [] = refl
length-octets (t ∷ ts) = omega (arith, length-octets ts)

-- octets in threes
pub grouped : (octets : List ℕ) → length octets % 3 ≡ 0 → (ts : List Triple) × (octets ≡ flat_map octets_of ts)
grouped [] h = ([], refl)
grouped (a ∷ []) h = absurd (omega arith)
grouped (a ∷ b ∷ []) h = absurd (omega arith)
grouped (a ∷ b ∷ c ∷ rest) h =
    let more = grouped rest (omega arith) in
    (record { func = a; flags = b; value = c } ∷ more.0, ap (λ x. a ∷ b ∷ c ∷ x) more.1)

pub takes_memory : (octets : List ℕ) → length octets % 3 ≡ 0 → 0 < length octets → TakesMemory 34 (3 ∷ octets)
takes_memory octets h some =
    let all = grouped octets h in
    (all.0, (λ none. omega (arith, ap length all.1, length-octets all.0, ap length none)), (refl, ap (λ x. 3 ∷ x) all.1))

-- parameters that encode a payload have no unknown option
pub says_option : (option : ℕ) (params : List ℕ) (payload : Payload) → Says option params payload → IsUnknownOption option → ⊥
says_option option params (Naws width height) s u = u.0 s.0
says_option option params (Mode mask) s u = u.1 s.0
says_option option params (ForwardOn mask) s u = u.1 s.0
says_option option params ForwardOff s u = u.1 s.0
says_option option params ForwardYes s u = u.1 s.0
says_option option params ForwardNo s u = u.1 s.0
says_option option params (Slc triples) s u = u.1 s.0

slc_known : (octets : List ℕ) → IsUnknownKind (3 ∷ octets) → ⊥
slc_known [] k = k.1 refl
slc_known (x ∷ xs) k = k.1 refl

forward_known : (v : Verb) (octets : List ℕ) → IsUnknownKind (verb_code v ∷ 2 ∷ octets) → ⊥
forward_known v octets k = elim k.2 [ inl no_verb ↦ no_verb v refl | inr other ↦ other refl ]

-- parameters that encode a payload are of a known kind
pub says_kind : (option : ℕ) (params : List ℕ) (payload : Payload) → Says option params payload → IsUnknownSub option params → ⊥
says_kind option params (Naws width height) s u = omega (arith, s.0, u.0)
says_kind option params (Mode mask) s u = let k : IsUnknownKind (1 ∷ mask ∷ []) = subst IsUnknownKind s.1 u.1 in k.0 refl
says_kind option params (ForwardOn mask) s u = forward_known DoIt s.1.0 (subst IsUnknownKind s.1.1 u.1)
says_kind option params ForwardOff s u = forward_known DontIt [] (subst IsUnknownKind s.1 u.1)
says_kind option params ForwardYes s u = forward_known Will [] (subst IsUnknownKind s.1 u.1)
says_kind option params ForwardNo s u = forward_known Wont [] (subst IsUnknownKind s.1 u.1)
says_kind option params (Slc triples) s u = slc_known (flat_map octets_of triples) (subst IsUnknownKind s.1 u.1)

-- MODE and SLC are no verbs
low_not_forward : (first : ℕ) (rest : List ℕ) → first < 250 → HasBadForwardLength first rest → ⊥
low_not_forward first [] low b = omega (arith, verb_high b.0, b.1)
low_not_forward first (x ∷ xs) low b = omega (arith, verb_high b.1.0, b.1.1)

limit_at : (v u : Verb) → verb_code u ≡ verb_code v → mask_limit u ≡ mask_limit v
limit_at Will Will e = refl
limit_at Wont Wont e = refl
limit_at DoIt DoIt e = refl
limit_at DontIt DontIt e = refl
limit_at Will Wont e = absurd (omega arith)
limit_at Will DoIt e = absurd (omega arith)
limit_at Will DontIt e = absurd (omega arith)
limit_at Wont Will e = absurd (omega arith)
limit_at Wont DoIt e = absurd (omega arith)
limit_at Wont DontIt e = absurd (omega arith)
limit_at DoIt Will e = absurd (omega arith)
limit_at DoIt Wont e = absurd (omega arith)
limit_at DoIt DontIt e = absurd (omega arith)
limit_at DontIt Will e = absurd (omega arith)
limit_at DontIt Wont e = absurd (omega arith)
limit_at DontIt DoIt e = absurd (omega arith)

mode_length : (mask : ℕ) → HasBadLinemodeLength (1 ∷ mask ∷ []) → ⊥
mode_length mask (inl long) = long.1 refl
mode_length mask (inr (inl other)) = omega (arith, other.0)
mode_length mask (inr (inr forward)) = low_not_forward 1 (mask ∷ []) (omega arith) forward

slc_length : (ts : List Triple) → HasBadLinemodeLength (3 ∷ flat_map octets_of ts) → ⊥
slc_length ts (inl other) = omega (arith, other.0)
slc_length ts (inr (inl odd)) = odd.1 (omega (arith, length-octets ts))
slc_length ts (inr (inr forward)) = low_not_forward 3 (flat_map octets_of ts) (omega arith) forward

forward_length : (v : Verb) (octets : List ℕ) → length octets ≤ mask_limit v → HasBadLinemodeLength (verb_code v ∷ 2 ∷ octets) → ⊥
forward_length v octets h (inl other) = omega (arith, verb_high v, other.0)
forward_length v octets h (inr (inl other)) = omega (arith, verb_high v, other.0)
forward_length v octets h (inr (inr forward)) = omega (arith, limit_at v forward.1.0 forward.1.1, forward.1.2)

-- a LINEMODE subnegotiation that encodes a payload has a good length
linemode_length : (option : ℕ) (params good : List ℕ) → option ≡ 34 → params ≡ good → (HasBadLinemodeLength good → ⊥) → HasBadLength option params → ⊥
linemode_length option params good is e fits (inl naws) = omega (arith, naws.0)
linemode_length option params good is e fits (inr bad) = fits (subst HasBadLinemodeLength e bad.1)

pub says_length : (option : ℕ) (params : List ℕ) (payload : Payload) → Says option params payload → HasBadLength option params → ⊥
says_length option params (Naws width height) s (inl bad) = bad.1 s.1
says_length option params (Naws width height) s (inr other) = omega (arith, s.0, other.0)
says_length option params (Mode mask) s b = linemode_length option params (1 ∷ mask ∷ []) s.0 s.1 (mode_length mask) b
says_length option params (ForwardOn mask) s b = linemode_length option params (253 ∷ 2 ∷ s.1.0) s.0 s.1.1 (forward_length DoIt s.1.0 s.1.2) b
says_length option params ForwardOff s b = linemode_length option params (254 ∷ 2 ∷ []) s.0 s.1 (forward_length DontIt [] (omega arith)) b
says_length option params ForwardYes s b = linemode_length option params (251 ∷ 2 ∷ []) s.0 s.1 (forward_length Will [] (omega arith)) b
says_length option params ForwardNo s b = linemode_length option params (252 ∷ 2 ∷ []) s.0 s.1 (forward_length Wont [] (omega arith)) b
says_length option params (Slc triples) s b = linemode_length option params (3 ∷ flat_map octets_of triples) s.0 s.1 (slc_length triples) b

kind_length : (params : List ℕ) → IsUnknownKind params → HasBadLinemodeLength params → ⊥
kind_length [] k b = absurd k
kind_length (first ∷ []) k (inl b) = k.0 b.0
kind_length (first ∷ []) k (inr (inl b)) = k.1 b.0
kind_length (first ∷ []) k (inr (inr b)) = k.2 b.0 b.1
kind_length (first ∷ second ∷ rest) k (inl b) = k.0 b.0
kind_length (first ∷ second ∷ rest) k (inr (inl b)) = k.1 b.0
kind_length (first ∷ second ∷ rest) k (inr (inr b)) = elim k.2 [ inl no_verb ↦ no_verb b.1.0 b.1.1 | inr other ↦ other b.0 ]

pub unknown_length : (option : ℕ) (params : List ℕ) → IsUnknownSub option params → HasBadLength option params → ⊥
unknown_length option params u (inl b) = omega (arith, u.0, b.0)
unknown_length option params u (inr b) = kind_length params u.1 b.1

pub option_length : (option : ℕ) (params : List ℕ) → IsUnknownOption option → HasBadLength option params → ⊥
option_length option params u (inl b) = u.0 b.0
option_length option params u (inr b) = u.1 b.0

pub option_kind : (option : ℕ) (params : List ℕ) → IsUnknownOption option → IsUnknownSub option params → ⊥
option_kind option params u s = u.1 s.0
