-- The most entries that a piece of a stream makes.
use Rattle.std.proofs.Common.{◌≡◌, ◌≢◌, inl, inr, ℕ, ◌+◌, ◌≤◌, ◌<◌, Bool, true, false, if◌then◌else◌, List, [], ◌∷◌, ◌++◌, length, drop, refl, sym, ap, ◌∙◌}
use Rattle.std.proofs.{Common.{subst, arith, append_assoc, length-append, length-drop}, lemmas.{Bool.Decides.{eqb_tells, leb_tells}, List.append_cancel_left}}
use Rattle.std.proofs.lemmas.List.Elements.{All-tail}
use Rattle.std.specs.Prelude.{All, flat_map}
use Rattle.tn_discipline.proofs.lemmas.Histories.{entries-all}
use Rattle.tn_discipline.specs.{Admitted.is_dropped, Entries.half_of, Keys.roles_from, Steps.{gain_after, gain_next, gain_all, half_next}}
use Rattle.tn_discipline.specs.declared.{keys.Role.Role, reads.Entry.Entry}
use Rattle.tn_discipline.specs.declared.keys.Role.TheVariants as role
use Rattle.tn_nvt.specs.{Feeding.DecoderState, Spelling.spelling, Stream.{Segment, spelled, IsSegment, text, look_ahead, gives, Splits, IsPartial, Reading}}
use Rattle.tn_nvt.specs.declared.items.Item.{Item, TheVariants.Byte}
use Rattle.tn_nvt.proofs.lemmas.{Reading.{one_reading, reads_on, has_reading}, Sizes.{doubled_some, total, IsWeight, weighs_at_most}}
use Rattle.tn_pty.specs.declared.pty.PtyFault.TheVariants.{TooFarAhead}
use Rattle.tn_linemode.specs.Prefixes.{IsRead}
use Rattle.tn_server.specs.{Answering.{IsStopCause, StopsWithin}, Calls.End, Course.{Course, fed, stream, ReadsAs, CourseLeadsTo}, Steps.end_after_items}
use Rattle.tn_server.specs.{Events.{History, next, got, items, gets, limit}, Lines.{roles, entries, role_of_item, taken_count, waiting}}
use Rattle.tn_server.specs.declared.faults.ServerFault.{ServerFault, TheVariants.Pty}
use Rattle.tn_server.proofs.lemmas.{Courses.{one_history, reads_all}, Stopping.{has_read, many_wait}}

-- LISTS

-- if a list is cut in two ways, the longer first part begins with the shorter
begins_with : (a b c d : List ℕ) → a ++ b ≡ c ++ d → length c ≤ length a → (e : List ℕ) × (a ≡ c ++ e)
begins_with a b [] d e short = (a, refl)
begins_with [] b (x ∷ c) d e short = absurd (omega (arith, short))
begins_with (y ∷ a) b (x ∷ c) d e short =
    let heads : y ≡ x = cc in
    let tails : a ++ b ≡ c ++ d = cc in
    let on = begins_with a b c d tails (omega (arith, short)) in
    (on.0, ap (λ (n : ℕ). n ∷ a) heads ∙ ap (λ (l : List ℕ). x ∷ l) on.1)

all_after : (front rest : List ℕ) → All (λ b. b < 256) (front ++ rest) → All (λ b. b < 256) rest
all_after [] rest h = h
all_after (x ∷ front) rest h = all_after front rest (All-tail (λ b. b < 256) x (front ++ rest) h)

-- THE ITEMS OF A PIECE

-- a stream ends with its rest
ends_with : (ss : List Segment) (rest stream : List ℕ) → Splits ss rest stream → (front : List ℕ) × (stream ≡ front ++ rest)
ends_with [] rest stream e = ([], e)
ends_with (s ∷ ss) rest stream (after, is, e, more) =
    let on = ends_with ss rest (look_ahead s ++ after) more in
    (text s ++ on.0, e ∙ ap (λ (l : List ℕ). text s ++ l) on.1 ∙ sym (append_assoc (text s) on.0 rest))

spelled_some : (item : Item) → 1 ≤ length (spelling item)
spelled_some (Byte b) =
    elim (eqb_tells b 13) [
      | inl e ↦ rw e.0 (omega arith)
      | inr e ↦ rw e.0 (doubled_some b)
    ]
spelled_some _ = omega arith

text_some : (s : Segment) → 1 ≤ length (text s)
text_some (spelled item) = spelled_some item
text_some _ = omega arith

-- a segment gives an item, or looks ahead at two bytes
gives_or_looks : (s : Segment) → length (gives s) + length (look_ahead s) ≤ 2
gives_or_looks (spelled item) = omega arith
gives_or_looks _ = omega arith

each_weighs_one : IsWeight (λ item. 1) 1
each_weighs_one = record { spelled = λ item fits. omega (arith, spelled_some item); alone = omega arith }

total_is_length : (xs : List Item) → total (λ item. 1) xs ≡ length xs
total_is_length [] = refl
total_is_length (x ∷ xs) = omega (arith, total_is_length xs)

-- a stream has at most as many items as bytes
items_within : (stream rest : List ℕ) (xs : List Item) → Reading stream xs rest → length xs ≤ length stream
items_within stream rest xs r = omega (arith, total_is_length xs, weighs_at_most (λ item. 1) 1 each_weighs_one stream rest xs r)

-- less than a segment is not a whole one with what it looks ahead at and more
no_whole : (rest later : List ℕ) (s : Segment) → All (λ b. b < 256) rest → IsPartial rest → IsSegment s → rest ≡ text s ++ (look_ahead s ++ later) → ⊥
no_whole rest later s bytes partial is e =
    let left : List ℕ = look_ahead s ++ later in
    let r = has_reading left (all_after (text s) left (subst (λ (l : List ℕ). All (λ b. b < 256) l) e bytes)) in
    let short : Reading rest [] rest = record { segments = []; splits = refl; partial = partial; read = refl } in
    let long : Reading rest (gives s ++ r.0) r.1 = record {
      segments = s ∷ r.2.segments;
      splits = (later, is, e, r.2.splits);
      partial = r.2.partial;
      read = ap (λ (xs : List Item). gives s ++ xs) r.2.read;
    } in
    let same = (one_reading rest rest r.1 [] (gives s ++ r.0) short long).1 in
    let end = ends_with r.2.segments r.1 left r.2.splits in
    omega (
      arith,
      ap length same,
      ap length e,
      length-append (text s) left,
      ap length end.1,
      length-append end.0 r.1,
      text_some s,
    )

-- the first segment that more bytes complete goes past the rest
goes_past : (rest more after : List ℕ) (s : Segment) → All (λ b. b < 256) rest → IsPartial rest → IsSegment s → rest ++ more ≡ text s ++ (look_ahead s ++ after)
    → length rest < length (text s) + length (look_ahead s)
goes_past rest more after s bytes partial is e =
    let front : List ℕ = text s ++ look_ahead s in
    let long : length front ≡ length (text s) + length (look_ahead s) = length-append (text s) (look_ahead s) in
    let whole : rest ++ more ≡ front ++ after = e ∙ sym (append_assoc (text s) (look_ahead s) after) in
    elim (leb_tells (length front) (length rest)) [
      | inl h ↦
          let start = begins_with rest more front after whole h.1 in
          absurd (no_whole rest start.0 s bytes partial is (start.1 ∙ append_assoc (text s) (look_ahead s) start.0))
      | inr h ↦ omega (arith, h.1, long)
    ]

few_after : (rest more end : List ℕ) (ss : List Segment) → All (λ b. b < 256) rest → IsPartial rest → IsPartial end → Splits ss end (rest ++ more)
    → length (flat_map gives ss) ≤ length more + 1
few_after rest more end [] bytes partial last e = omega arith
few_after rest more end (s ∷ ss) bytes partial last (after, is, e, on) =
    let left : List ℕ = look_ahead s ++ after in
    let reading : Reading left (flat_map gives ss) end = record { segments = ss; splits = on; partial = last; read = refl } in
    omega (
      arith,
      length-append (gives s) (flat_map gives ss),
      items_within left end (flat_map gives ss) reading,
      gives_or_looks s,
      goes_past rest more after s bytes partial is e,
      ap length e,
      length-append rest more,
      length-append (text s) left,
    )

-- a piece completes at most one item for each byte, and one more
pub completes_few : (stream piece : List ℕ) (had xs : List Item) → All (λ b. b < 256) stream → IsRead stream had → IsRead (stream ++ piece) (had ++ xs)
    → length xs ≤ length piece + 1
completes_few stream piece had xs bytes start whole =
    let on = reads_on stream piece start.0 whole.0 had (had ++ xs) start.1 whole.1 in
    let same : xs ≡ on.0 = append_cancel_left had xs on.0 on.1 in
    let end = ends_with start.1.segments start.0 stream start.1.splits in
    let rest_bytes = all_after end.0 start.0 (subst (λ (l : List ℕ). All (λ b. b < 256) l) end.1 bytes) in
    omega (
      arith,
      ap length same,
      ap length on.2.read,
      few_after start.0 piece whole.0 on.2.segments rest_bytes start.1.partial on.2.partial on.2.splits,
    )

-- THE ENTRIES OF ITEMS

gained : (half : List ℕ) (r : Role) → length (gain_after half r) ≤ 1
gained half (role.Signal sig) = omega arith
gained half role.Nl = omega arith
gained half (role.Eol byte) = omega arith
gained half (role.Eol2 byte) = omega arith
gained half role.Eof = omega arith
gained half _ = omega arith

gained_unless : (dropped : Bool) (half : List ℕ) (r : Role) → length (if dropped then [] else gain_after half r) ≤ 1
gained_unless true half r = omega arith
gained_unless false half r = gained half r

gain_within : (most : ℕ) (half : List ℕ) (rs : List Role) → length (gain_all most half rs) ≤ length rs
gain_within most half [] = omega arith
gain_within most half (r ∷ rs) =
    omega (
      arith,
      length-append (gain_next most half r) (gain_all most (half_next most half r) rs),
      gained_unless (is_dropped most (length half) r) half r,
      gain_within most (half_next most half r) rs,
    )

one_role : (r : Role) → length (roles_from r) ≤ 1
one_role role.Ignored = omega arith
one_role _ = omega arith

-- an item makes at most one entry
waits_one : (h : History) (item : Item) → length (waiting (next h (got item))) ≤ length (waiting h) + 1
waits_one h item =
    let rs : List Role = roles_from (role_of_item h item) in
    let gain : List Entry = gain_all (limit h) (half_of (limit h) (roles h)) rs in
    let n : ℕ = taken_count h in
    let grown : length (waiting (next h (got item))) ≡ length (drop n (entries h ++ gain)) =
    ap (λ (l : List Entry). length (drop n l)) (entries-all (limit h) (roles h) rs) in
    omega (
      arith,
      grown,
      length-drop n (entries h ++ gain),
      length-drop n (entries h),
      length-append (entries h) gain,
      gain_within (limit h) (half_of (limit h) (roles h)) rs,
      one_role (role_of_item h item),
    )

pub waits_few : (h : History) (xs : List Item) → length (waiting (gets h xs)) ≤ length (waiting h) + length xs
waits_few h [] = omega arith
waits_few h (x ∷ xs) = omega (arith, waits_few (next h (got x)) xs, waits_one h x)

-- A PIECE

pub makes_few : (c : Course) (h whole : History) (piece : List ℕ) → All (λ b. b < 256) (stream c) → ReadsAs c h → ReadsAs (fed c piece) whole
    → length (waiting whole) ≤ length (waiting h) + (length piece + 1)
makes_few c h whole piece bytes leads (old, more, before, read, is) =
    omega (
      arith,
      ap (λ (k : History). length (waiting k)) is,
      waits_few old more,
      completes_few (stream c) piece (items old) more bytes (reads_all c old before) read,
      ap (λ (k : History). length (waiting k)) (one_history c old h before leads),
    )

-- the item that finds too many waiting is one of those that are left
some_left : (end : End) (left : List Item) (here : DecoderState) (back : List ℕ) → IsStopCause end left here back (Pty TooFarAhead) → 1 ≤ length left
some_left end [] here back why = absurd (let f = why.0 in cc)
some_left end (item ∷ left) here back why = omega arith

pub finds_room : (c : Course) (h : History) (old new : End) (piece before after : List ℕ) (fault : ServerFault) → All (λ b. b < 256) (stream c)
    → CourseLeadsTo c old → ReadsAs c h → length piece ≤ 512 → length (waiting h) ≤ 511 → StopsWithin old piece fault before after new → fault ≢ Pty TooFarAhead
finds_room c h old new piece before after fault bytes a leads short few s = λ is.
    let k = a.history in
    let runs = has_read old.decoder (stream c) (items k) a.reads in
    let end = end_after_items old s.done in
    let why : IsStopCause end s.left s.here s.back (Pty TooFarAhead) =
    subst (λ (f : ServerFault). IsStopCause end s.left s.here s.back f) is (s.cause runs) in
    let read = s.reads (stream c) (items k) a.reads in
    omega (
      arith,
      short,
      few,
      ap (λ (x : History). length (waiting x)) (one_history c k h a.reads_as leads),
      many_wait k old new piece before after fault s is runs a.leads,
      some_left end s.left s.here s.back why,
      waits_few k s.done,
      length-append s.done s.left,
      ap length s.whole,
      length-append s.front s.back,
      completes_few (stream c) s.front (items k) (s.done ++ s.left) bytes (a.reads.rest, a.reads.reading) (read.rest, read.reading),
    )
