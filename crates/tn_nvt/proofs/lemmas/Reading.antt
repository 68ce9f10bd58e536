-- A stream has one reading, what was written is read again, and a flight of whole items stays one however
-- it is cut.
use Rattle.std.proofs.{Common.{◌≡◌, ℕ, ◌<◌, List, [], ◌∷◌, ◌++◌, refl, sym, ◌∙◌, subst, append_assoc, lit<}, lemmas.Grind.flat_map-append}
use Rattle.std.proofs.lemmas.List.{append-nil, append_cancel_left, Elements.{All-head, All-tail}}
use Rattle.std.specs.Prelude.{All}
use Rattle.tn_nvt.specs.{declared.items.Item.{Item, TheVariants.Newline}, Spelling.{spelling, spells, Fits}, Stream.{spelled, Reading}}
use Rattle.tn_nvt.specs.Feeding.{DecoderState, LeadsTo, Advances}
use Rattle.tn_nvt.proofs.Exists as exists
use Rattle.tn_nvt.proofs.Unique as unique

-- READINGS

pub one_reading : (stream rest other_rest : List ℕ) (items others : List Item) → Reading stream items rest
    → Reading stream others other_rest
    → (items ≡ others) × (rest ≡ other_rest)
one_reading = unique.one_reading

pub one_standing : (a b : DecoderState) (stream : List ℕ) (items others : List Item) → LeadsTo stream items a
    → LeadsTo stream others b
    → (a ≡ b) × (items ≡ others)
one_standing = unique.one_standing

-- the items of a longer stream begin with those of its front
pub reads_on : (stream more rest other_rest : List ℕ) (items others : List Item)
    → Reading stream items rest → Reading (stream ++ more) others other_rest
    → (left : List Item) × (others ≡ items ++ left) × Reading (rest ++ more) left other_rest
reads_on = unique.reads_on

-- each string of bytes has a reading
pub has_reading : (stream : List ℕ) → All (λ b. b < 256) stream → (items : List Item) × (rest : List ℕ) × Reading stream items rest
has_reading = exists.has_reading

-- nothing is read of nothing
pub reads_none : Reading [] [] []
reads_none = record {
  segments = [];
  splits = refl;
  partial = record { segment = spelled Newline; more = 13 ∷ 10 ∷ []; is_segment = tt; proper = lit< tt; begins = refl };
  read = refl;
}

-- the front of a stream that is whole items has a reading, and its items are a prefix of theirs
pub record ReadsFront (front more : List ℕ) (items : List Item) : Type 0 where
  pub got : List Item
  pub rest : List ℕ
  pub left : List Item
  pub all : items ≡ got ++ left
  pub reads : Reading front got rest
  pub others : Reading (rest ++ more) left []

pub reads_front : (front more : List ℕ) (items : List Item) → All (λ b. b < 256) front
    → Reading (front ++ more) items [] → ReadsFront front more items
reads_front front more items bytes whole =
    let h = exists.has_reading front bytes in
    let on = reads_on front more h.1 [] h.0 items h.2 whole in
    record { got = h.0; rest = h.1; left = on.0; all = on.1; reads = h.2; others = on.2 }

-- WHAT IS WRITTEN

pub spells-append : (xs ys : List Item) → spells (xs ++ ys) ≡ spells xs ++ spells ys
spells-append = flat_map-append spelling

-- no spelling of an item begins another's
pub one_spelling : (a b : Item) (x y : List ℕ) → Fits a → Fits b → spelling a ++ x ≡ spelling b ++ y
    → (a ≡ b) × (x ≡ y)
one_spelling = unique.one_spelling

-- an item that is written at the front of a stream is read before it
pub read_again : (item : Item) (items : List Item) (stream rest : List ℕ) → Fits item
    → Reading stream items rest
    → Reading (spelling item ++ stream) (item ∷ items) rest
read_again = unique.read_again

-- an item that is written at the end of whole items is read after them
pub reads_written : (item : Item) (items : List Item) (stream : List ℕ) → Fits item → Reading stream items []
    → Reading (stream ++ spelling item) (items ++ item ∷ []) []
reads_written = unique.reads_written

-- a list of items that was written is read again
pub all_read_again : (items more : List Item) (stream rest : List ℕ) → All Fits items
    → Reading stream more rest
    → Reading (spells items ++ stream) (items ++ more) rest
all_read_again [] more stream rest fit r = r
all_read_again (item ∷ items) more stream rest fit r =
    subst (λ xs. Reading xs (item ∷ (items ++ more)) rest) (sym (append_assoc (spelling item) (spells items) stream))
    (read_again item (items ++ more) (spells items ++ stream) rest (All-head Fits item items fit)
    (all_read_again items more stream rest (All-tail Fits item items fit) r))

pub reads_all_written : (items had : List Item) (stream : List ℕ) → All Fits items → Reading stream had []
    → Reading (stream ++ spells items) (had ++ items) []
reads_all_written [] had stream fit r =
    subst (λ xs. Reading xs (had ++ []) []) (sym (append-nil stream)) (subst (λ xs. Reading stream xs []) (sym (append-nil had)) r)
reads_all_written (item ∷ items) had stream fit r =
    subst (λ xs. Reading xs (had ++ item ∷ items) []) (append_assoc stream (spelling item) (spells items))
    (subst (λ xs. Reading ((stream ++ spelling item) ++ spells items) xs []) (append_assoc had (item ∷ []) items)
    (reads_all_written items (had ++ item ∷ []) (stream ++ spelling item) (All-tail Fits item items fit)
    (reads_written item had stream (All-head Fits item items fit) r)))

-- the spelling of items is read as these
pub reads_spelled : (items : List Item) → All Fits items → Reading (spells items) items []
reads_spelled items fit = reads_all_written items [] [] fit reads_none

-- a text determines its items
pub one_text : (items others : List Item) → All Fits items → All Fits others
    → spells items ≡ spells others → items ≡ others
one_text items others fit fits same =
    (one_reading (spells others) [] [] items others (subst (λ xs. Reading xs items []) same (reads_spelled items fit)) (reads_spelled others fits)).0

-- WHAT IS DELIVERED

-- Whole items fly after the bytes that a decoder has read, and a piece is cut from their front: the items
-- that it adds are a front of them, and the rest flies after the longer stream.
pub record Delivers (new : DecoderState) (stream piece later : List ℕ) (had got items : List Item) : Type 0 where
  pub left : List Item
  pub all : items ≡ got ++ left
  pub has_read : LeadsTo (stream ++ piece) (had ++ got) new
  pub reads : Reading ((stream ++ piece) ++ later) ((had ++ got) ++ left) []

pub delivers : (old new : DecoderState) (stream piece later : List ℕ) (had got items : List Item)
    → LeadsTo stream had old → Advances old piece got new
    → Reading (stream ++ (piece ++ later)) (had ++ items) [] → Delivers new stream piece later had got items
delivers old new stream piece later had got items h adds reads =
    let reached = adds stream had h in
    let whole : Reading ((stream ++ piece) ++ later) (had ++ items) [] =
    subst (λ x. Reading x (had ++ items) []) (sym (append_assoc stream piece later)) reads in
    let on = reads_on (stream ++ piece) later reached.rest [] (had ++ got) (had ++ items) reached.reading whole in
    record {
      left = on.0;
      all = append_cancel_left had items (got ++ on.0) (on.1 ∙ append_assoc had got on.0);
      has_read = reached;
      reads = subst (λ x. Reading ((stream ++ piece) ++ later) x []) on.1 whole;
    }
