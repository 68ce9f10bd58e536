-- The length of all that either end sends, in its spelling.
use Rattle.std.proofs.Common.{◌≡◌, ◌≢◌, ℕ, ◌+◌, ◌*◌, ◌≤◌, nat_le, Bool, true, false, ◌&&◌, Option, Some, None, option_to_list, List, [], ◌∷◌, ◌++◌, length, map}
use Rattle.std.proofs.{Common.{refl, sym, ◌∙◌, ap, arith, append-nil, if◌then◌else◌}, lemmas.Grind.flat_map-append}
use Rattle.std.specs.List.{flat_map}
use Rattle.tn_codes.specs.{Codes.func_code, PayloadOf.payload_of, Payloads.{octets_of, parameters_of, Says}, declared.codes.{Func.Func, Verb.Verb}}
use Rattle.tn_codes.specs.declared.{payloads.Payload.{Payload, TheVariants.{Mode, Slc}}, triples.Triple.Triple}
use Rattle.tn_codes.specs.declared.codes.Func.TheVariants as func
use Rattle.tn_codes.proofs.lemmas.Telling.{says}
use Rattle.tn_discipline.specs.Characters.{Characters, AreAllowed, slot, special_functions}
use Rattle.tn_linemode.specs.{Exchange.{announcement, answers_along, Answers}, Triples.triple_of, Words.{word_items, payload_items, list_items, payload_under}}
use Rattle.tn_nvt.specs.{Spelling.{doubled_byte, doubled_bytes, spelling, spells}, declared.items.Item.{Item, TheVariants.{Neg, Sub}}}
use Rattle.tn_nvt.proofs.lemmas.Sizes.{doubled_within, doubled_some, doubled_alone, length-doubled-append, length-doubled-none, length-doubled-cons, length-sub}
use Rattle.tn_nvt.proofs.lemmas.Sizes.{length-spells-append}

-- the bytes of some items
abbrev pub size : List Item → ℕ
size items = length (spells items)

pub size-append : (xs ys : List Item) → size (xs ++ ys) ≡ size xs + size ys
size-append = length-spells-append

pub size-one : (item : Item) → size (item ∷ []) ≡ length (spelling item)
size-one item = ap length (append-nil (spelling item))

pub size-word : (said : Option (Verb × ℕ)) → size (word_items said) ≤ 3
size-word None = omega arith
size-word (Some said) = omega (arith, size-one (Neg said.0 said.1))

-- a subnegotiation of LINEMODE or of another option that is no IAC
pub size-sub : (option : ℕ) (params : List ℕ) → option ≢ 255 → size (Sub option params ∷ []) ≡ length (doubled_bytes params) + 5
size-sub option params plain = omega (arith, size-one (Sub option params), length-sub option params, doubled_alone option plain)

pub size-mode : (mask : ℕ) → mask ≢ 255 → size (payload_items (Mode mask)) ≡ 7
size-mode mask plain =
    omega (
      arith,
      size-sub 34 (1 ∷ mask ∷ []) (λ e. omega (arith, e)),
      length-doubled-cons 1 (mask ∷ []),
      length-doubled-cons mask [],
      length-doubled-none,
      doubled_alone 1 (λ e. omega (arith, e)),
      doubled_alone mask plain,
    )

-- TRIPLES: a list's octets, each IAC twice
abbrev pub octets_size : List Triple → ℕ
octets_size ts = length (doubled_bytes (flat_map octets_of ts))

triple_size : (t : Triple) → length (doubled_bytes (octets_of t)) ≡ length (doubled_byte t.func) + length (doubled_byte t.flags) + length (doubled_byte t.value)
triple_size t =
    omega (
      arith,
      length-doubled-cons t.func (t.flags ∷ t.value ∷ []),
      length-doubled-cons t.flags (t.value ∷ []),
      length-doubled-cons t.value [],
      length-doubled-none,
    )

octets_size-cons : (t : Triple) (ts : List Triple) → octets_size (t ∷ ts) ≡ length (doubled_bytes (octets_of t)) + octets_size ts
octets_size-cons t ts = length-doubled-append (octets_of t) (flat_map octets_of ts)

octets_size-append : (ts us : List Triple) → octets_size (ts ++ us) ≡ octets_size ts + octets_size us
octets_size-append ts us =
    ap (λ (bytes : List ℕ). length (doubled_bytes bytes)) (flat_map-append octets_of ts us)
    ∙ length-doubled-append (flat_map octets_of ts) (flat_map octets_of us)

size-slc : (ts : List Triple) → size (payload_items (Slc ts)) ≡ octets_size ts + 6
size-slc ts =
    omega (
      arith,
      size-sub 34 (3 ∷ flat_map octets_of ts) (λ e. omega (arith, e)),
      length-doubled-cons 3 (flat_map octets_of ts),
      doubled_alone 3 (λ e. omega (arith, e)),
    )

-- an empty list is not sent
pub size-list : (ts : List Triple) → size (list_items ts) ≤ octets_size ts + 6
size-list [] = omega arith
size-list (t ∷ ts) = omega (arith, size-slc (t ∷ ts))

-- the code of a function is no IAC
plain_code : (f : Func) → func_code f ≢ 255
plain_code func.Synch e = omega (arith, e)
plain_code _ e = omega (arith, e)

pub triple_of-size : (f : Func) (v : Option ℕ) → length (doubled_bytes (octets_of (triple_of f v))) ≤ 4
triple_of-size f None =
    omega (arith, triple_size (triple_of f None), doubled_alone (func_code f) (plain_code f), doubled_alone 0 (λ e. omega (arith, e)))
triple_of-size f (Some byte) =
    omega (
      arith,
      triple_size (triple_of f (Some byte)),
      doubled_alone (func_code f) (plain_code f),
      doubled_alone 2 (λ e. omega (arith, e)),
      doubled_within byte,
    )

-- if the character is no IAC
pub plain_triple-size : (f : Func) (v : Option ℕ) → v ≢ Some 255 → length (doubled_bytes (octets_of (triple_of f v))) ≡ 3
plain_triple-size f None plain =
    omega (arith, triple_size (triple_of f None), doubled_alone (func_code f) (plain_code f), doubled_alone 0 (λ e. omega (arith, e)))
plain_triple-size f (Some byte) plain =
    omega (
      arith,
      triple_size (triple_of f (Some byte)),
      doubled_alone (func_code f) (plain_code f),
      doubled_alone 2 (λ e. omega (arith, e)),
      doubled_alone byte (λ e. plain (ap Some e)),
    )

pub size-triple : (f : Func) (v : Option ℕ) → size (list_items (triple_of f v ∷ [])) ≤ 10
size-triple f v =
    omega (arith, size-list (triple_of f v ∷ []), octets_size-cons (triple_of f v) [], length-doubled-none, triple_of-size f v)

pub size-plain_triple : (f : Func) (v : Option ℕ) → v ≢ Some 255 → size (list_items (triple_of f v ∷ [])) ≤ 9
size-plain_triple f v plain =
    omega (arith, size-list (triple_of f v ∷ []), octets_size-cons (triple_of f v) [], length-doubled-none, plain_triple-size f v plain)

-- the table of characters that a terminal can have
told_size : (c : Characters) (fs : List Func) → ((f : Func) → slot c f ≢ Some 255) → octets_size (map (λ f. triple_of f (slot c f)) fs) ≤ 3 * length fs
told_size c [] plain = omega (arith, length-doubled-none)
told_size c (f ∷ fs) plain =
    omega (
      arith,
      octets_size-cons (triple_of f (slot c f)) (map (λ f. triple_of f (slot c f)) fs),
      plain_triple-size f (slot c f) (plain f),
      told_size c fs plain,
    )

pub size-table : (c : Characters) → AreAllowed c → size (list_items (announcement c)) ≤ 30
unfolding announcement
size-table c allowed =
    omega (
      arith,
      size-list (map (λ f. triple_of f (slot c f)) special_functions),
      told_size c special_functions (λ f e. absurd (reserved (allowed.unreserved f 255 e))),
    )
  where
    reserved : true ≡ false → ⊥
    reserved e = cc

-- ANSWERS: a triple that speaks of the same function, and has no IAC besides
answer_size : (t a : Triple) → Answers t a → length (doubled_bytes (octets_of a)) ≤ length (doubled_bytes (octets_of t))
answer_size t a h =
    omega (
      arith,
      triple_size t,
      triple_size a,
      ap (λ (b : ℕ). length (doubled_byte b)) h.function,
      doubled_alone a.flags h.modifier,
      doubled_alone a.value h.character,
      doubled_some t.flags,
      doubled_some t.value,
    )

module _ (next : Characters → Triple → Characters) (answer : Characters → Triple → Option Triple) (P : Characters → Type 0)
    (stays : (c : Characters) (t : Triple) → P c → P (next c t))
    (answers : (c : Characters) (t a : Triple) → P c → answer c t ≡ Some a → Answers t a) where
  one_size : (t : Triple) (o : Option Triple) → ((a : Triple) → o ≡ Some a → Answers t a)
      → octets_size (option_to_list o) ≤ length (doubled_bytes (octets_of t))
  one_size t None h = omega (arith, length-doubled-none)
  one_size t (Some a) h = omega (arith, octets_size-cons a [], length-doubled-none, answer_size t a (h a refl))

  -- the answers to a list are no longer than it
  pub answers-size : (c : Characters) (ts : List Triple) → P c → octets_size (answers_along next answer c ts) ≤ octets_size ts
  unfolding answers_along
  answers-size c [] holds = omega arith
  answers-size c (t ∷ ts) holds =
      omega (
        arith,
        octets_size-append (option_to_list (answer c t)) (answers_along next answer (next c t) ts),
        octets_size-cons t ts,
        one_size t (answer c t) (λ a. answers c t a holds),
        answers-size (next c t) ts (stays c t holds),
      )

-- WHAT CAME
is_under : (test : Bool) (o : Option Payload) (p : Payload) → (if test then o else None) ≡ Some p → o ≡ Some p
is_under true o p e = e
is_under false o p e = cc

pub says_under : (on : Bool) (option : ℕ) (params : List ℕ) (p : Payload) → payload_under on option params ≡ Some p → Says option params p
says_under on option params p e = says option params p (is_under (on && nat_le (length params) 512) (payload_of option params) p e)

-- a list of triples that came is as long as it is
pub size-came : (option : ℕ) (params : List ℕ) (ts : List Triple) → Says option params (Slc ts) → length (spelling (Sub option params)) ≡ octets_size ts + 6
size-came option params ts s =
    ap (λ (x : ℕ). length (spelling (Sub x params))) s.0
    ∙ ap (λ (x : List ℕ). length (spelling (Sub 34 x))) s.1
    ∙ sym (size-one (Sub 34 (parameters_of (Slc ts))))
    ∙ size-slc ts

-- no subnegotiation is shorter than its parameters and five bytes
pub size-least : (option : ℕ) (params : List ℕ) → length params + 5 ≤ length (spelling (Sub option params))
size-least option params = omega (arith, length-sub option params, doubled_some option, doubled_least params)
  where
    doubled_least : (bytes : List ℕ) → length bytes ≤ length (doubled_bytes bytes)
    doubled_least [] = omega arith
    doubled_least (b ∷ bytes) = omega (arith, length-doubled-cons b bytes, doubled_some b, doubled_least bytes)

-- each byte of parameters is spelled in at most two
pub doubled_most : (bytes : List ℕ) → length (doubled_bytes bytes) ≤ 2 * length bytes
doubled_most [] = omega (arith, length-doubled-none)
doubled_most (b ∷ bytes) = omega (arith, length-doubled-cons b bytes, doubled_within b, doubled_most bytes)

pub size-params : (option : ℕ) (params : List ℕ) → option ≢ 255 → size (Sub option params ∷ []) ≤ 2 * length params + 5
size-params option params plain = omega (arith, size-sub option params plain, doubled_most params)
