-- The length of spellings, and how much the items of a stream weigh at most.
use Rattle.std.proofs.{Common.{◌≡◌, ◌≢◌, ℕ, ◌+◌, ◌*◌, ◌≤◌, List, [], ◌∷◌, ◌++◌, length, refl, ◌∙◌, ap, arith, length-append, inl, inr}, lemmas.Bool.ne_eqb}
use Rattle.std.proofs.lemmas.Bool.Decides.{eqb_tells}
use Rattle.std.specs.Prelude.{flat_map}
use Rattle.tn_nvt.specs.{declared.items.Item.{Item, TheVariants.{Byte, Sub}}, Spelling.{cr, doubled_byte, doubled_bytes, spelling, spells, Fits}}
use Rattle.tn_nvt.specs.Stream.{Segment, spelled, lone_cr, escaped, unread, cut, IsSegment, text, look_ahead, gives, Splits, Reading}
use Rattle.tn_nvt.proofs.{Doubling.{doubled-append, doubled_none, doubled_one, length-subnegotiation}, lemmas.Reading.spells-append}

-- LENGTHS

-- a byte is spelled in one byte or in two
pub doubled_within : (b : ℕ) → length (doubled_byte b) ≤ 2
doubled_within b =
    elim (eqb_tells b 255) [
      | inl e ↦ let is : b ≡ 255 = e.1 in rw is (omega arith)
      | inr e ↦ let differs : b ≢ 255 = e.1 in rw (ne_eqb b 255 differs) (omega arith)
    ]

pub doubled_some : (b : ℕ) → 1 ≤ length (doubled_byte b)
doubled_some b =
    elim (eqb_tells b 255) [
      | inl e ↦ let is : b ≡ 255 = e.1 in rw is (omega arith)
      | inr e ↦ let differs : b ≢ 255 = e.1 in rw (ne_eqb b 255 differs) (omega arith)
    ]

-- a byte that is no IAC is one byte in its spelling
pub doubled_alone : (b : ℕ) → b ≢ 255 → length (doubled_byte b) ≡ 1
doubled_alone b differs = rw (ne_eqb b 255 differs) refl

pub length-doubled-append : (xs ys : List ℕ) → length (doubled_bytes (xs ++ ys)) ≡ length (doubled_bytes xs) + length (doubled_bytes ys)
length-doubled-append xs ys = ap length (doubled-append xs ys) ∙ length-append (doubled_bytes xs) (doubled_bytes ys)

pub length-doubled-none : length (doubled_bytes []) ≡ 0
length-doubled-none = ap length doubled_none

pub length-doubled-cons : (b : ℕ) (bs : List ℕ) → length (doubled_bytes (b ∷ bs)) ≡ length (doubled_byte b) + length (doubled_bytes bs)
length-doubled-cons b bs = length-doubled-append (b ∷ []) bs ∙ ap (λ n. n + length (doubled_bytes bs)) (ap length (doubled_one b))

pub length-sub : (option : ℕ) (params : List ℕ) → length (spelling (Sub option params)) ≡ length (doubled_byte option) + length (doubled_bytes params) + 4
length-sub option params =
    length-subnegotiation params option ∙ ap (λ n. n + length (doubled_bytes params) + 4) (ap length (doubled_one option))

pub length-spells-append : (xs ys : List Item) → length (spells (xs ++ ys)) ≡ length (spells xs) + length (spells ys)
length-spells-append xs ys = ap length (spells-append xs ys) ∙ length-append (spells xs) (spells ys)

-- WEIGHTS

-- the weights of some items together
abbrev pub total : (Item → ℕ) → List Item → ℕ
total w [] = 0
total w (item ∷ items) = w item + total w items

-- an item weighs at most `c` for each byte of the stream from which it is read; a CR may be read from only
-- one byte
pub record IsWeight (w : Item → ℕ) (c : ℕ) : Type 0 where
  pub spelled : (item : Item) → Fits item → w item ≤ c * length (spelling item)
  pub alone : w (Byte cr) ≤ c

pub total-append : (w : Item → ℕ) (xs ys : List Item) → total w (xs ++ ys) ≡ total w xs + total w ys
total-append w [] ys = omega arith
total-append w (x ∷ xs) ys = omega (arith, total-append w xs ys)

times-add : (c a b : ℕ) → c * (a + b) ≡ c * a + c * b
times-add c a b = grind arith

times-one : (c : ℕ) → c * 1 ≡ c
times-one c = grind arith

segment_weighs : (w : Item → ℕ) (c : ℕ) → IsWeight w c → (s : Segment) → IsSegment s → total w (gives s) ≤ c * length (text s)
segment_weighs w c h (spelled item) is = omega (arith, h.spelled item is)
segment_weighs w c h (lone_cr next) is = omega (arith, h.alone, times-one c)
segment_weighs w c h (escaped byte) is = omega arith
segment_weighs w c h (unread bytes) is = omega arith
segment_weighs w c h (cut bytes next) is = omega arith

segments_weigh : (w : Item → ℕ) (c : ℕ) → IsWeight w c → (ss : List Segment) (rest stream : List ℕ) → Splits ss rest stream
    → total w (flat_map gives ss) ≤ c * length stream
segments_weigh w c h [] rest stream is = omega arith
segments_weigh w c h (s ∷ ss) rest stream (after, is, e, more) =
    let left : List ℕ = look_ahead s ++ after in
    let parts : length stream ≡ length (text s) + length left = ap length e ∙ length-append (text s) left in
    omega (
      arith,
      total-append w (gives s) (flat_map gives ss),
      segment_weighs w c h s is,
      segments_weigh w c h ss rest left more,
      ap (λ n. c * n) parts,
      times-add c (length (text s)) (length left),
    )

-- the items of a stream weigh at most so much for each of its bytes
pub weighs_at_most : (w : Item → ℕ) (c : ℕ) → IsWeight w c → (stream rest : List ℕ) (items : List Item) → Reading stream items rest
    → total w items ≤ c * length stream
weighs_at_most w c h stream rest items r =
    omega (arith, ap (total w) r.read, segments_weigh w c h r.segments rest stream r.splits)
