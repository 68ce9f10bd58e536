-- The relation and the function agree.
use Rattle.std.proofs.Common.{◌≡◌, ◌≢◌, ℕ, ◌≤◌, ◌⊎◌, inl, inr, Bool, true, false, List, [], ◌∷◌, length, take, drop, flat_map, Option, Some, None, Result, Ok}
use Rattle.std.proofs.{Common.{Err, IsOk, MatchResult, refl, sym, ◌∙◌, ap, subst, arith}, lemmas.Bool.{ne_eqb, Decides.{eqb_tells, nat_tests}}}
use Rattle.std.specs.{Prelude.{IsErrOf, ◌↔◌, nat_le, if◌then◌else◌}, Option.option_map, Int.{w16, from_be_bytes}}
use Rattle.tn_codes.specs.declared.payloads.Payload.{Payload, TheVariants.{Naws, Mode, ForwardOn, ForwardOff, ForwardYes, ForwardNo, Slc}}
use Rattle.tn_codes.specs.declared.{payloads.PayloadFault.{PayloadFault, TheVariants.{UnknownOption, UnknownSub, BadLength, Memory}}, triples.Triple.Triple}
use Rattle.tn_codes.specs.{Masks.filled_octets, Payloads.{octets_of, Says, IsUnknownSub, HasBadLength, Tells}}
use Rattle.tn_codes.specs.PayloadOf.{size_of, mode_of, triples_of, alone, forward_of, forwardmask_of, linemode_of, payload_of}
use Rattle.tn_codes.proofs.Grammar.{says_option, says_kind, says_length, unknown_length, option_length, option_kind}

-- from the relation to the function

size_told : (params : List ℕ) (width height : ℕ) → length params ≡ 4 → width ≡ from_be_bytes w16 (take 2 params) → height ≡ from_be_bytes w16 (drop 2 params)
    → size_of params ≡ Some (Naws width height)
size_told [] width height h w k = absurd (omega arith)
size_told (a ∷ []) width height h w k = absurd (omega arith)
size_told (a ∷ b ∷ []) width height h w k = absurd (omega arith)
size_told (a ∷ b ∷ c ∷ []) width height h w k = absurd (omega arith)
size_told (a ∷ b ∷ c ∷ d ∷ []) width height h w k = rw (w, k) refl
size_told (a ∷ b ∷ c ∷ d ∷ e ∷ rest) width height h w k = absurd (omega arith)

triples_told : (ts : List Triple) → triples_of (flat_map octets_of ts) ≡ Some ts
triples_told [] = refl
triples_told (t ∷ ts) = ap (option_map (λ triples. t ∷ triples)) (triples_told ts)

short : (octets : List ℕ) → length octets ≤ 32 → nat_le (length octets) 32 ≡ true
short octets h = grind (arith, nat_tests)

pub told : (option : ℕ) (params : List ℕ) (payload : Payload) → Says option params payload → payload_of option params ≡ Some payload
told option params (Naws width height) s = rw s.0 (size_told params width height s.1 s.2 s.3)
told option params (Mode mask) s = rw (s.0, s.1) refl
told option params (ForwardOn mask) s = rw (s.0, s.1.1, short s.1.0 s.1.2) (ap (λ octets. Some (ForwardOn (record { 0 = octets }))) (sym s.1.3))
told option params ForwardOff s = rw (s.0, s.1) refl
told option params ForwardYes s = rw (s.0, s.1) refl
told option params ForwardNo s = rw (s.0, s.1) refl
told option params (Slc triples) s = rw (s.0, s.1) (ap (option_map Slc) (triples_told triples))

-- from the function to the relation

size_says : (option : ℕ) (params : List ℕ) (payload : Payload) → option ≡ 31 → size_of params ≡ Some payload → Says option params payload
size_says option [] payload is e = cc
size_says option (a ∷ []) payload is e = cc
size_says option (a ∷ b ∷ []) payload is e = cc
size_says option (a ∷ b ∷ c ∷ []) payload is e = cc
size_says option (a ∷ b ∷ c ∷ d ∷ []) payload is e =
    let same : Naws (from_be_bytes w16 (a ∷ b ∷ [])) (from_be_bytes w16 (c ∷ d ∷ [])) ≡ payload = cc in
    subst (λ p. Says option (a ∷ b ∷ c ∷ d ∷ []) p) same (is, refl, refl, refl)
size_says option (a ∷ b ∷ c ∷ d ∷ x ∷ rest) payload is e = cc

mode_says : (option : ℕ) (rest : List ℕ) (payload : Payload) → option ≡ 34 → mode_of rest ≡ Some payload → Says option (1 ∷ rest) payload
mode_says option [] payload is e = cc
mode_says option (mask ∷ []) payload is e =
    let same : Mode mask ≡ payload = cc in
    subst (λ p. Says option (1 ∷ mask ∷ []) p) same (is, refl)
mode_says option (mask ∷ x ∷ rest) payload is e = cc

with_front : (a b c : ℕ) (rest : List ℕ) (told : Option (List Triple)) (ts : List Triple) → ((us : List Triple) → told ≡ Some us → rest ≡ flat_map octets_of us)
    → option_map (λ triples. record { func = a; flags = b; value = c } ∷ triples) told ≡ Some ts → a ∷ b ∷ c ∷ rest ≡ flat_map octets_of ts
with_front a b c rest None ts go e = cc
with_front a b c rest (Some us) ts go e =
    let first : Triple = record { func = a; flags = b; value = c } in
    let same : first ∷ us ≡ ts = cc in
    ap (λ xs. a ∷ b ∷ c ∷ xs) (go us refl) ∙ ap (flat_map octets_of) same

triples_back : (octets : List ℕ) (ts : List Triple) → triples_of octets ≡ Some ts → octets ≡ flat_map octets_of ts
triples_back [] ts e = let same : [] ≡ ts = cc in ap (flat_map octets_of) same
triples_back (a ∷ []) ts e = cc
triples_back (a ∷ b ∷ []) ts e = cc
triples_back (a ∷ b ∷ c ∷ rest) ts e = with_front a b c rest (triples_of rest) ts (triples_back rest) e

slc_says : (option : ℕ) (rest : List ℕ) (told : Option (List Triple)) (payload : Payload) → option ≡ 34
    → ((ts : List Triple) → told ≡ Some ts → rest ≡ flat_map octets_of ts) → option_map Slc told ≡ Some payload → Says option (3 ∷ rest) payload
slc_says option rest None payload is go e = cc
slc_says option rest (Some ts) payload is go e =
    let same : Slc ts ≡ payload = cc in
    subst (λ p. Says option (3 ∷ rest) p) same (is, ap (λ xs. 3 ∷ xs) (go ts refl))

alone_back : (said payload : Payload) (octets : List ℕ) → alone said octets ≡ Some payload → (octets ≡ []) × (said ≡ payload)
alone_back said payload [] e = (refl, cc)
alone_back said payload (x ∷ xs) e = cc

off_says : (option : ℕ) (octets : List ℕ) (payload : Payload) → option ≡ 34 → alone ForwardOff octets ≡ Some payload → Says option (254 ∷ 2 ∷ octets) payload
off_says option octets payload is e =
    let back = alone_back ForwardOff payload octets e in
    subst (λ p. Says option (254 ∷ 2 ∷ octets) p) back.1 (is, ap (λ xs. 254 ∷ 2 ∷ xs) back.0)

yes_says : (option : ℕ) (octets : List ℕ) (payload : Payload) → option ≡ 34 → alone ForwardYes octets ≡ Some payload → Says option (251 ∷ 2 ∷ octets) payload
yes_says option octets payload is e =
    let back = alone_back ForwardYes payload octets e in
    subst (λ p. Says option (251 ∷ 2 ∷ octets) p) back.1 (is, ap (λ xs. 251 ∷ 2 ∷ xs) back.0)

no_says : (option : ℕ) (octets : List ℕ) (payload : Payload) → option ≡ 34 → alone ForwardNo octets ≡ Some payload → Says option (252 ∷ 2 ∷ octets) payload
no_says option octets payload is e =
    let back = alone_back ForwardNo payload octets e in
    subst (λ p. Says option (252 ∷ 2 ∷ octets) p) back.1 (is, ap (λ xs. 252 ∷ 2 ∷ xs) back.0)

on_says : (option : ℕ) (octets : List ℕ) (payload : Payload) (fits : Bool) → option ≡ 34 → (fits ≡ true → length octets ≤ 32)
    → (if fits then Some (ForwardOn (record { 0 = filled_octets octets })) else None) ≡ Some payload → Says option (253 ∷ 2 ∷ octets) payload
on_says option octets payload false is h e = cc
on_says option octets payload true is h e =
    let same : ForwardOn (record { 0 = filled_octets octets }) ≡ payload = cc in
    subst (λ p. Says option (253 ∷ 2 ∷ octets) p) same (is, (octets, refl, h refl, refl))

at_most : (octets : List ℕ) → nat_le (length octets) 32 ≡ true → length octets ≤ 32
at_most octets e = grind (arith, nat_tests)

command_says : (option first : ℕ) (octets : List ℕ) (payload : Payload) → option ≡ 34 → forward_of first octets ≡ Some payload
    → Says option (first ∷ 2 ∷ octets) payload
command_says option first octets payload is e =
    elim (eqb_tells first 251) [
      | inl will ↦ let f : first ≡ 251 = will.1 in rw f (yes_says option octets payload is (rw f at e))
      | inr not_will ↦ let n1 : first ≢ 251 = not_will.1 in
          elim (eqb_tells first 252) [
            | inl wont ↦ let f : first ≡ 252 = wont.1 in rw f (no_says option octets payload is (rw f at e))
            | inr not_wont ↦ let n2 : first ≢ 252 = not_wont.1 in
                elim (eqb_tells first 253) [
                  | inl on ↦ let f : first ≡ 253 = on.1 in rw f (on_says option octets payload (nat_le (length octets) 32) is (at_most octets) (rw f at e))
                  | inr not_on ↦ let n3 : first ≢ 253 = not_on.1 in
                      elim (eqb_tells first 254) [
                        | inl off ↦ let f : first ≡ 254 = off.1 in rw f (off_says option octets payload is (rw f at e))
                        | inr not_off ↦ let n4 : first ≢ 254 = not_off.1 in
                            let none : None ≡ Some payload = rw (ne_eqb first 251 n1, ne_eqb first 252 n2, ne_eqb first 253 n3, ne_eqb first 254 n4) at e in cc
                      ]
                ]
          ]
    ]

forward_says : (option first : ℕ) (rest : List ℕ) (payload : Payload) → option ≡ 34 → forwardmask_of first rest ≡ Some payload
    → Says option (first ∷ rest) payload
forward_says option first [] payload is e = cc
forward_says option first (second ∷ octets) payload is e =
    elim (eqb_tells second 2) [
      | inl mask ↦ let s : second ≡ 2 = mask.1 in rw s (command_says option first octets payload is (rw s at e))
      | inr other ↦ let n : second ≢ 2 = other.1 in let none : None ≡ Some payload = rw (ne_eqb second 2 n) at e in cc
    ]

linemode_says : (option : ℕ) (params : List ℕ) (payload : Payload) → option ≡ 34 → linemode_of params ≡ Some payload → Says option params payload
linemode_says option [] payload is e = cc
linemode_says option (first ∷ rest) payload is e =
    elim (eqb_tells first 1) [
      | inl mode ↦ let f : first ≡ 1 = mode.1 in rw f (mode_says option rest payload is (rw f at e))
      | inr not_mode ↦ let n1 : first ≢ 1 = not_mode.1 in
          elim (eqb_tells first 3) [
            | inl slc ↦ let f : first ≡ 3 = slc.1 in rw f (slc_says option rest (triples_of rest) payload is (triples_back rest) (rw f at e))
            | inr not_slc ↦ let n3 : first ≢ 3 = not_slc.1 in forward_says option first rest payload is (rw (ne_eqb first 1 n1, ne_eqb first 3 n3) at e)
          ]
    ]

pub says : (option : ℕ) (params : List ℕ) (payload : Payload) → payload_of option params ≡ Some payload → Says option params payload
says option params payload e =
    elim (eqb_tells option 31) [
      | inl naws ↦ let o : option ≡ 31 = naws.1 in size_says option params payload o (rw o at e)
      | inr not_naws ↦ let n1 : option ≢ 31 = not_naws.1 in
          elim (eqb_tells option 34) [
            | inl linemode ↦ let o : option ≡ 34 = linemode.1 in linemode_says option params payload o (rw o at e)
            | inr not_linemode ↦ let n2 : option ≢ 34 = not_linemode.1 in
                let none : None ≡ Some payload = rw (ne_eqb option 31 n1, ne_eqb option 34 n2) at e in cc
          ]
    ]

none_unless : (told : Option Payload) → ((payload : Payload) → told ≡ Some payload → ⊥) → told ≡ None
none_unless None h = refl
none_unless (Some payload) h = absurd (h payload refl)

-- the function gives none if the parameters encode none
pub untold : (option : ℕ) (params : List ℕ) → ((payload : Payload) → Says option params payload → ⊥) → payload_of option params ≡ None
untold option params h = none_unless (payload_of option params) (λ payload e. h payload (says option params payload e))

-- the facts that a result shows, clause by clause

pub said_by : (option : ℕ) (params : List ℕ) (r : Result Payload PayloadFault) → Tells option params r → (payload : Payload) → Says option params payload
    → IsOk r ⊎ IsErrOf r Memory
said_by option params (Ok other) t payload s = inl refl
said_by option params (Err UnknownOption) t payload s = absurd (says_option option params payload s t)
said_by option params (Err UnknownSub) t payload s = absurd (says_kind option params payload s t)
said_by option params (Err BadLength) t payload s = absurd (says_length option params payload s t)
said_by option params (Err Memory) t payload s = inr refl

unknown_sub_back : (option : ℕ) (params : List ℕ) (r : Result Payload PayloadFault) → Tells option params r → IsUnknownSub option params → IsErrOf r UnknownSub
unknown_sub_back option params (Ok payload) t u = absurd (says_kind option params payload t u)
unknown_sub_back option params (Err UnknownOption) t u = absurd (option_kind option params t u)
unknown_sub_back option params (Err UnknownSub) t u = refl
unknown_sub_back option params (Err BadLength) t u = absurd (unknown_length option params u t)
unknown_sub_back option params (Err Memory) t u = absurd (says_kind option params (Slc t.0) t.2 u)

pub unknown_sub_by : (option : ℕ) (params : List ℕ) (r : Result Payload PayloadFault) → Tells option params r
    → IsErrOf r UnknownSub ↔ IsUnknownSub option params
unknown_sub_by option params r t = (λ e. subst (Tells option params) e t, unknown_sub_back option params r t)

bad_length_back : (option : ℕ) (params : List ℕ) (r : Result Payload PayloadFault) → Tells option params r → HasBadLength option params → IsErrOf r BadLength
bad_length_back option params (Ok payload) t b = absurd (says_length option params payload t b)
bad_length_back option params (Err UnknownOption) t b = absurd (option_length option params t b)
bad_length_back option params (Err UnknownSub) t b = absurd (unknown_length option params t b)
bad_length_back option params (Err BadLength) t b = refl
bad_length_back option params (Err Memory) t b = absurd (says_length option params (Slc t.0) t.2 b)

pub bad_length_by : (option : ℕ) (params : List ℕ) (r : Result Payload PayloadFault) → Tells option params r → IsErrOf r BadLength ↔ HasBadLength option params
bad_length_by option params r t = (λ e. subst (Tells option params) e t, bad_length_back option params r t)

pub payload_by : (option : ℕ) (params : List ℕ) (r : Result Payload PayloadFault) → Tells option params r
    → MatchResult r (λ payload. payload_of option params ≡ Some payload) (λ fault. fault ≢ Memory → payload_of option params ≡ None)
payload_by option params (Ok payload) t = told option params payload t
payload_by option params (Err UnknownOption) t = λ _. untold option params (λ payload s. says_option option params payload s t)
payload_by option params (Err UnknownSub) t = λ _. untold option params (λ payload s. says_kind option params payload s t)
payload_by option params (Err BadLength) t = λ _. untold option params (λ payload s. says_length option params payload s t)
payload_by option params (Err Memory) t = λ other. absurd (other refl)

pub one_payload : (option : ℕ) (params : List ℕ) (payload other : Payload) → Says option params payload → Says option params other → payload ≡ other
one_payload option params payload other s t =
    let both : Some payload ≡ Some other = sym (told option params payload s) ∙ told option params other t in
    cc
