-- Runs of bytes that wait: some are moved, one begins, and one is added.
use Rattle.std.proofs.Common.{◌≡◌, ℕ, zero, suc, ◌+◌, ◌-◌, ◌<◌, ◌≤◌, Result, Ok, Err, OnOk, OnErr, List, [], ◌∷◌, ◌++◌, length, drop, take, refl, sym, ap}
use Rattle.std.proofs.{Common.{subst, ◌∙◌, arith, append_assoc, append-nil}, lemmas.List.{nil_from_length, Elements.{All-append, All-tail}}}
use Rattle.std.proofs.lemmas.List.{drop-drop, map-append, take-append-drop, take-append-le, drop-append-le, length-drop, take_all, drop-take, length-append}
use Rattle.std.specs.Prelude.{All, map}
use Rattle.tn_nvt.specs.declared.items.Item.{Item, TheVariants.{Byte, Newline, Cmd, Neg, Sub}}
use Rattle.tn_c.specs.parts.Waiting.{woven, run_bytes, items_in, IsFilled, IsWhole, StartsWithRun, StartsWithData, Appends, Stays, AddsItems}
use Rattle.tn_c.specs.declared.parts.waiting.Part.{Part, TheVariants.{Run, One}}

-- A PART MORE

woven_run : (bytes more : List ℕ) (parts : List Part) → run_bytes parts ≡ length bytes
    → woven (bytes ++ more) (parts ++ Run (length more) ∷ []) ≡ woven bytes parts ++ map Byte more
woven_run bytes more [] same =
    let none = nil_from_length bytes (sym same) in
    append-nil (map Byte (take (length more) (bytes ++ more)))
    ∙ ap (λ (l : List ℕ). map Byte (take (length more) (l ++ more))) none
    ∙ ap (λ (l : List ℕ). map Byte l) (take_all (length more) more (omega arith))
woven_run bytes more (Run count ∷ parts) same =
    let fits : count ≤ length bytes = omega (arith, same) in
    ap (λ (l : List ℕ). map Byte l ++ woven (drop count (bytes ++ more)) (parts ++ Run (length more) ∷ [])) (take-append-le count bytes more fits)
    ∙ ap (λ (l : List ℕ). map Byte (take count bytes) ++ woven l (parts ++ Run (length more) ∷ [])) (drop-append-le count bytes more fits)
    ∙ ap (λ (l : List Item). map Byte (take count bytes) ++ l) (woven_run (drop count bytes) more parts (omega (arith, same, length-drop count bytes)))
    ∙ sym (append_assoc (map Byte (take count bytes)) (woven (drop count bytes) parts) (map Byte more))
woven_run bytes more (One item ∷ parts) same = ap (λ (l : List Item). item ∷ l) (woven_run bytes more parts same)

woven_one : (bytes : List ℕ) (item : Item) (parts : List Part) → woven bytes (parts ++ One item ∷ []) ≡ woven bytes parts ++ item ∷ []
woven_one bytes item [] = refl
woven_one bytes item (Run count ∷ parts) =
    ap (λ (l : List Item). map Byte (take count bytes) ++ l) (woven_one (drop count bytes) item parts)
    ∙ sym (append_assoc (map Byte (take count bytes)) (woven (drop count bytes) parts) (item ∷ []))
woven_one bytes item (One other ∷ parts) = ap (λ (l : List Item). other ∷ l) (woven_one bytes item parts)

more_bytes : (parts : List Part) (count : ℕ) → run_bytes (parts ++ Run count ∷ []) ≡ run_bytes parts + count
more_bytes [] count = omega arith
more_bytes (Run n ∷ parts) count = omega (arith, more_bytes parts count)
more_bytes (One item ∷ parts) count = more_bytes parts count

pub same_bytes : (parts : List Part) (item : Item) → run_bytes (parts ++ One item ∷ []) ≡ run_bytes parts
same_bytes [] item = refl
same_bytes (Run n ∷ parts) item = omega (arith, same_bytes parts item)
same_bytes (One other ∷ parts) item = same_bytes parts item

-- WHAT WAITS

pub added : (from left : ℕ) (bytes more new : List ℕ) (parts later : List Part) → from + (left + run_bytes parts) ≡ length bytes → Appends from bytes more new parts later
    → items_in 0 left new later ≡ items_in from left bytes parts ++ map Byte more
added from left bytes more new parts later counts a =
    let rest : List ℕ = drop from bytes in
    let whole : List Part = parts ++ Run (length more) ∷ [] in
    let long = length-drop from bytes in
    let fits : left ≤ length rest = omega (arith, counts, long) in
    let same : run_bytes parts ≡ length (drop left rest) = omega (arith, counts, long, length-drop left rest) in
    ap (λ (l : List ℕ). items_in 0 left l later) a.bytes
    ∙ ap (λ (ps : List Part). items_in 0 left (rest ++ more) ps) a.parts_are
    ∙ ap (λ (l : List ℕ). map Byte l ++ woven (drop left (rest ++ more)) whole) (take-append-le left rest more fits)
    ∙ ap (λ (l : List ℕ). map Byte (take left rest) ++ woven l whole) (drop-append-le left rest more fits)
    ∙ ap (λ (l : List Item). map Byte (take left rest) ++ l) (woven_run (drop left rest) more parts same)
    ∙ sym (append_assoc (map Byte (take left rest)) (woven (drop left rest) parts) (map Byte more))

pub added_counts : (from left : ℕ) (bytes more new : List ℕ) (parts later : List Part) → from + (left + run_bytes parts) ≡ length bytes
    → Appends from bytes more new parts later → 0 + (left + run_bytes later) ≡ length new
added_counts from left bytes more new parts later counts a =
    omega (
      arith,
      counts,
      ap run_bytes a.parts_are,
      more_bytes parts (length more),
      ap length a.bytes,
      length-append (drop from bytes) more,
      length-drop from bytes,
    )

pub stayed : (from left : ℕ) (bytes new : List ℕ) (parts later : List Part) → Stays from bytes new parts later
    → items_in 0 left new later ≡ items_in from left bytes parts
stayed from left bytes new parts later s =
    ap (λ (l : List ℕ). items_in 0 left l later) s.bytes ∙ ap (λ (ps : List Part). items_in 0 left (drop from bytes) ps) s.parts_are

pub stayed_counts : (from left : ℕ) (bytes new : List ℕ) (parts later : List Part) → from + (left + run_bytes parts) ≡ length bytes
    → Stays from bytes new parts later → 0 + (left + run_bytes later) ≡ length new
stayed_counts from left bytes new parts later counts s =
    omega (arith, counts, ap run_bytes s.parts_are, ap length s.bytes, length-drop from bytes)

pub one_more : (from left : ℕ) (bytes : List ℕ) (parts later : List Part) (item : Item) → later ≡ parts ++ One item ∷ []
    → items_in from left bytes later ≡ items_in from left bytes parts ++ item ∷ []
one_more from left bytes parts later item is =
    let before = map Byte (take left (drop from bytes)) in
    let rest : List ℕ = drop left (drop from bytes) in
    ap (λ (ps : List Part). before ++ woven rest ps) is
    ∙ ap (λ (l : List Item). before ++ l) (woven_one rest item parts)
    ∙ sym (append_assoc before (woven rest parts) (item ∷ []))

-- the first byte of a run
pub first_of : (from left : ℕ) (bytes : List ℕ) (parts : List Part) (byte : ℕ) → drop from bytes ≡ byte ∷ drop (from + 1) bytes → 0 < left
    → items_in from left bytes parts ≡ Byte byte ∷ items_in (from + 1) (left - 1) bytes parts
first_of from zero bytes parts byte is some = absurd (omega (arith, some))
first_of from (suc left) bytes parts byte is some =
    let less : left ≡ suc left - 1 = omega arith in
    ap (λ (l : List ℕ). map Byte (take (suc left) l) ++ woven (drop (suc left) l) parts) is
    ∙ ap (λ (n : ℕ). Byte byte ∷ items_in (from + 1) n bytes parts) less

pub moved : (from left count later : ℕ) (bytes : List ℕ) (parts : List Part) (buf : List ℕ) → later + count ≡ left
    → take count buf ≡ take count (take left (drop from bytes))
    → items_in from left bytes parts ≡ map Byte (take count buf) ++ items_in (from + count) later bytes parts
moved from left count later bytes parts buf t front =
    let rest : List ℕ = drop from bytes in
    let sum : left ≡ count + later = omega (arith, t) in
    let tail : drop count rest ≡ drop (from + count) bytes = drop-drop count from bytes in
    let split : take left rest ≡ take count buf ++ take later (drop (from + count) bytes) =
    sym (take-append-drop count (take left rest))
    ∙ ap (λ (l : List ℕ). l ++ drop count (take left rest)) (sym front)
    ∙ ap (λ (n : ℕ). take count buf ++ drop count (take n rest)) sum
    ∙ ap (λ (l : List ℕ). take count buf ++ l) (drop-take count later rest ∙ ap (λ (l : List ℕ). take later l) tail)
    in
    let after : drop left rest ≡ drop later (drop (from + count) bytes) =
    ap (λ (n : ℕ). drop n rest) sum ∙ sym (drop-drop later count rest) ∙ ap (λ (l : List ℕ). drop later l) tail
    in
    let next : List ℕ = drop (from + count) bytes in
    ap (λ (l : List ℕ). map Byte l ++ woven (drop left rest) parts) split
    ∙ ap (λ (l : List ℕ). map Byte (take count buf ++ take later next) ++ woven l parts) after
    ∙ ap (λ (l : List Item). l ++ woven (drop later next) parts) (map-append Byte (take count buf) (take later next))
    ∙ append_assoc (map Byte (take count buf)) (map Byte (take later next)) (woven (drop later next) parts)

first_is_data : (bytes : List ℕ) (parts : List Part) → (StartsWithRun parts → ⊥) → All IsFilled parts → StartsWithData (woven bytes parts) → ⊥
first_is_data bytes [] other filled starts = starts
first_is_data bytes (Run count ∷ parts) other filled starts = other tt
first_is_data bytes (One (Byte byte) ∷ parts) other filled starts = filled 0 (One (Byte byte)) (omega arith)
first_is_data bytes (One Newline ∷ parts) other filled starts = starts
first_is_data bytes (One (Cmd command) ∷ parts) other filled starts = starts
first_is_data bytes (One (Neg verb option) ∷ parts) other filled starts = starts
first_is_data bytes (One (Sub option params) ∷ parts) other filled starts = starts

pub no_data : (from left : ℕ) (bytes : List ℕ) (parts : List Part) → left ≡ 0 → (StartsWithRun parts → ⊥) → All IsFilled parts
    → StartsWithData (items_in from left bytes parts) → ⊥
no_data from left bytes parts none other filled starts =
    first_is_data (drop from bytes) parts other filled
    (subst (λ (n : ℕ). StartsWithData (items_in from n bytes parts)) none starts)

-- WHAT A RUN OR AN ITEM LEAVES

one_filled : (part : Part) → IsFilled part → All IsFilled (part ∷ [])
one_filled part filled zero d within = filled
one_filled part filled (suc k) d within = absurd (omega (arith, within))

whole_then : (from left : ℕ) (bytes more new : List ℕ) (parts later : List Part) → IsWhole from left bytes parts → 0 < length more
    → Appends from bytes more new parts later → IsWhole 0 left new later
whole_then from left bytes more new parts later w some a =
    record {
      counts = added_counts from left bytes more new parts later w.counts a;
      filled = subst (λ (ps : List Part). All IsFilled ps) (sym a.parts_are)
          (All-append IsFilled parts (Run (length more) ∷ []) w.filled (one_filled (Run (length more)) some));
    }

whole_still : (from left : ℕ) (bytes new : List ℕ) (parts later : List Part) → IsWhole from left bytes parts → Stays from bytes new parts later
    → IsWhole 0 left new later
whole_still from left bytes new parts later w s =
    record {
      counts = stayed_counts from left bytes new parts later w.counts s;
      filled = subst (λ (ps : List Part). All IsFilled ps) (sym s.parts_are) w.filled;
    }

pub stays_whole : {T E : Type 0} (r : Result T E) (from left start : ℕ) (bytes more new : List ℕ) (parts later : List Part) → IsWhole from left bytes parts
    → 0 < length more → start ≡ 0 → OnOk r (Appends from bytes more new parts later) → OnErr r (Stays from bytes new parts later) → IsWhole start left new later
stays_whole (Ok x) from left start bytes more new parts later w some begins ok err =
    subst (λ (n : ℕ). IsWhole n left new later) (sym begins) (whole_then from left bytes more new parts later w some ok)
stays_whole (Err e) from left start bytes more new parts later w some begins ok err =
    subst (λ (n : ℕ). IsWhole n left new later) (sym begins) (whole_still from left bytes new parts later w err)

pub adds_run : {T E : Type 0} (r : Result T E) (from left start : ℕ) (bytes more new : List ℕ) (parts later : List Part) → IsWhole from left bytes parts
    → start ≡ 0 → OnOk r (Appends from bytes more new parts later)
    → OnOk r (AddsItems (items_in from left bytes parts) (map Byte more) (items_in start left new later))
adds_run (Ok x) from left start bytes more new parts later w begins ok =
    ap (λ (n : ℕ). items_in n left new later) begins ∙ added from left bytes more new parts later w.counts ok
adds_run (Err e) from left start bytes more new parts later w begins ok = tt

pub one_whole : {T E : Type 0} (r : Result T E) (from left : ℕ) (bytes : List ℕ) (parts later : List Part) (item : Item) → IsWhole from left bytes parts
    → IsFilled (One item) → OnOk r (later ≡ parts ++ One item ∷ []) → OnErr r (later ≡ parts) → IsWhole from left bytes later
one_whole (Ok x) from left bytes parts later item w other ok err =
    subst (λ (ps : List Part). IsWhole from left bytes ps) (sym ok) (record {
      counts = omega (arith, w.counts, same_bytes parts item);
      filled = All-append IsFilled parts (One item ∷ []) w.filled (one_filled (One item) other);
    })
one_whole (Err e) from left bytes parts later item w other ok err = subst (λ (ps : List Part). IsWhole from left bytes ps) (sym err) w

pub adds_one : {T E : Type 0} (r : Result T E) (from left : ℕ) (bytes : List ℕ) (parts later : List Part) (item : Item)
    → OnOk r (later ≡ parts ++ One item ∷ []) → OnOk r (AddsItems (items_in from left bytes parts) (item ∷ []) (items_in from left bytes later))
adds_one (Ok x) from left bytes parts later item ok = one_more from left bytes parts later item ok
adds_one (Err e) from left bytes parts later item ok = tt

pub rest_whole : (from left count : ℕ) (bytes : List ℕ) (parts rest : List Part) → IsWhole from left bytes parts → left ≡ 0
    → parts ≡ Run count ∷ rest → IsWhole from count bytes rest
rest_whole from left count bytes parts rest w none is =
    record {
      counts = omega (arith, w.counts, none, ap run_bytes is);
      filled = All-tail IsFilled (Run count) rest (subst (λ (ps : List Part). All IsFilled ps) is w.filled);
    }

pub has_bytes : (count : ℕ) (parts rest : List Part) → All IsFilled parts → parts ≡ Run count ∷ rest → 0 < count
has_bytes count parts rest filled is = subst (λ (ps : List Part). All IsFilled ps) is filled 0 (Run count) (omega arith)

-- nothing is left of a run, and another one stands first
pub begins : (from left count : ℕ) (bytes : List ℕ) (parts rest : List Part) → left ≡ 0 → parts ≡ Run count ∷ rest
    → items_in from left bytes parts ≡ items_in from count bytes rest
begins from left count bytes parts rest none is =
    ap (λ (n : ℕ). items_in from n bytes parts) none ∙ ap (λ (ps : List Part). woven (drop from bytes) ps) is

pub is_other : (item : Item) → ((byte : ℕ) → item ≡ Byte byte → ⊥) → IsFilled (One item)
is_other (Byte byte) never = never byte refl
is_other Newline never = tt
is_other (Cmd command) never = tt
is_other (Neg verb option) never = tt
is_other (Sub option params) never = tt

pub adds_none : {T E : Type 0} (r : Result T E) (from left : ℕ) (bytes : List ℕ) (parts later : List Part) → OnErr r (later ≡ parts)
    → OnErr r (items_in from left bytes later ≡ items_in from left bytes parts)
adds_none (Ok x) from left bytes parts later same = tt
adds_none (Err e) from left bytes parts later same = ap (λ (ps : List Part). items_in from left bytes ps) same
