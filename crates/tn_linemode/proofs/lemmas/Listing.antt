-- Lists of local characters: those that came are short, and their answers fit a subnegotiation.
use Rattle.std.proofs.Common.{◌≡◌, ◌≢◌, ◌≤◌, ◌<◌, ℕ, ◌+◌, ◌*◌, nat_le, Bool, true, false, Option, Some, None, List, [], ◌∷◌, ◌++◌, length, length-append, refl}
use Rattle.std.proofs.{Common.{ap, ◌∙◌, arith, ◌&&◌, if◌then◌else◌}, lemmas.Bool.{leb-true, Decides.nat_tests}}
use Rattle.std.specs.List.{flat_map}
use Rattle.tn_codes.specs.{PayloadOf.payload_of, Payloads.{octets_of, Says, IsShort}, declared.{payloads.Payload.Payload, triples.Triple.Triple}}
use Rattle.tn_codes.specs.declared.payloads.Payload.TheVariants.{Naws, Mode, ForwardOn, ForwardOff, ForwardYes, ForwardNo, Slc}
use Rattle.tn_codes.proofs.lemmas.Telling.{told, says}
use Rattle.tn_discipline.specs.Characters.{Characters}
use Rattle.tn_linemode.specs.{Exchange.answers_along, Words.payload_under}
use Rattle.tn_linemode.proofs.lemmas.Answering.{length-answers_along}

pub length-octets : (triples : List Triple) → length (flat_map octets_of triples) ≡ 3 * length triples
length-octets [] = refl
length-octets (triple ∷ triples) = omega (arith, length-octets triples)

-- a payload of a subnegotiation of a stream is short
pub says_short : (option : ℕ) (params : List ℕ) (p : Payload) → Says option params p → length params ≤ 512 → IsShort p
says_short option params (Naws width height) s l = tt
says_short option params (Mode mask) s l = tt
says_short option params (ForwardOn mask) s l = tt
says_short option params ForwardOff s l = tt
says_short option params ForwardYes s l = tt
says_short option params ForwardNo s l = tt
says_short option params (Slc triples) s l = omega (arith, l, ap length s.1, length-octets triples)

-- a payload, if there is one, is short
abbrev pub IsShortOrNone : Option Payload → Type 0
IsShortOrNone None = Unit {0}
IsShortOrNone (Some p) = IsShort p

short_of : (option : ℕ) (params : List ℕ) (p : Option Payload) → payload_of option params ≡ p → length params ≤ 512 → IsShortOrNone p
short_of option params None e few = tt
short_of option params (Some p) e few = says_short option params p (says option params p e) few

short_if : (on : Bool) (option : ℕ) (params : List ℕ) (short : Bool) → nat_le (length params) 512 ≡ short
    → IsShortOrNone (if on && short then payload_of option params else None)
short_if true option params true e = short_of option params (payload_of option params) refl (leb-true (length params) 512 e)
short_if true option params false e = tt
short_if false option params short e = tt

pub short_under : (on : Bool) (option : ℕ) (params : List ℕ) → IsShortOrNone (payload_under on option params)
short_under on option params = short_if on option params (nat_le (length params) 512) refl

short_enough : (n : ℕ) → n ≤ 512 → nat_le n 512 ≡ true
short_enough n h = grind (arith, nat_tests)

-- a list of local characters counts if its option is on
pub list_under : (on : Bool) (option : ℕ) (params : List ℕ) (triples : List Triple) → on ≡ true → length params ≤ 512 → Says option params (Slc triples)
    → payload_under on option params ≡ Some (Slc triples)
list_under on option params triples is few says = rw (is, short_enough (length params) few) (told option params (Slc triples) says)

module _ (next : Characters → Triple → Characters) (answer : Characters → Triple → Option Triple) where
  empty_of : (xs : List Triple) → length xs ≤ 0 → xs ≡ []
  empty_of [] h = refl
  empty_of (x ∷ xs) h = absurd (omega (arith, h))

  -- the answers to a list, with none before them, are no more than its triples
  pub answers_few : (c : Characters) (triples came before answers : List Triple) (most : ℕ) → answers ≡ before ++ answers_along next answer c triples
      → before ≡ [] → triples ≡ came → length came ≤ most → length answers ≤ most
  answers_few c triples came before answers most is none same few =
      omega (
        arith,
        ap length is,
        ap length none,
        length-append before (answers_along next answer c triples),
        length-answers_along next answer c triples,
        ap length same,
        few,
      )

  -- answers to a list show that the list is not empty
  pub answered_some : (c : Characters) (triples before answers : List Triple) → answers ≡ before ++ answers_along next answer c triples → before ≡ []
      → answers ≢ [] → triples ≢ []
  answered_some c triples before answers is fresh some = λ none.
      let few = length-answers_along next answer c triples in
      let l = ap length (is ∙ ap (λ xs. xs ++ answers_along next answer c triples) fresh) in
      let n = ap length none in
      some (empty_of answers (omega (arith, few, l, n)))

  pub wanted_some : (c : Characters) (triples : List Triple) (capacity len : ℕ) → capacity < len + length (answers_along next answer c triples) → len ≡ 0
      → triples ≢ []
  wanted_some c triples capacity len full none = λ empty.
      let few = length-answers_along next answer c triples in
      let n = ap length empty in
      absurd (omega (arith, few, n))
