-- How a sink is called for a stream: plain bytes in runs as long as can be, all else item by item.
use Rattle.std.specs.Prelude.{◌≡◌, ◌≢◌, ℕ, ◌<◌, List, [], ◌∷◌, ◌++◌, ◌⊎◌, length, map, flat_map, All}
use Rattle.tn_nvt.specs.declared.items.Item.{Item, TheVariants.{Byte, Newline, Cmd, Neg, Sub}}
use Rattle.tn_nvt.specs.{Spelling.{cr, iac}, Feeding.{DecoderState, Advances, KeepsParameter}}

-- neither CR nor IAC
abbrev pub IsPlain : ℕ → Type 0
IsPlain b = (b ≢ cr) × (b ≢ iac)

-- bytes that are handed on at once
pub record IsRun (bytes : List ℕ) : Type 0 where
  pub some : 0 < length bytes
  pub plain : All IsPlain bytes

-- an item that no run has
abbrev pub IsSpecial : Item → Type 0
IsSpecial (Byte b) = (b ≡ cr) ⊎ (b ≡ iac)
IsSpecial Newline = Unit {0}
IsSpecial (Cmd command) = Unit {0}
IsSpecial (Neg verb option) = Unit {0}
IsSpecial (Sub option params) = Unit {0}

-- none of these items is a plain byte
abbrev pub AreSpecial : List Item → Type 0
AreSpecial [] = Unit {0}
AreSpecial (item ∷ items) = IsSpecial item × AreSpecial items

-- a part of a piece
pub data Part : Type 0 where
  -- bytes that are handed on as they are
  run : List ℕ → Part
  -- bytes, and the items that are handed on for them, one by one
  said : List ℕ → List Item → Part

-- the bytes of a part
abbrev pub part_bytes : Part → List ℕ
part_bytes (run bytes) = bytes
part_bytes (said bytes items) = bytes

-- the items that each call gets
abbrev pub part_calls : Part → List (List Item)
part_calls (run bytes) = map Byte bytes ∷ []
part_calls (said bytes items) = map (λ item. item ∷ []) items

-- the bytes of all parts
abbrev pub bytes_of : List Part → List ℕ
bytes_of parts = flat_map part_bytes parts

-- the calls of a sink for all parts
abbrev pub calls_of : List Part → List (List Item)
calls_of parts = flat_map part_calls parts

-- all of it
abbrev pub all_of : List (List Item) → List Item
all_of calls = flat_map (λ call. call) calls

-- a run ends at the end of the piece, or right before a CR or an IAC
abbrev pub EndsRun : List ℕ → Type 0
EndsRun [] = Unit {0}
EndsRun (b ∷ bs) = (b ≡ cr) ⊎ (b ≡ iac)

-- before these last bytes of the piece, each run is as long as can be
abbrev pub AreLongest : List Part → List ℕ → Type 0
AreLongest [] last = Unit {0}
AreLongest (run bytes ∷ parts) last = IsRun bytes × EndsRun (bytes_of parts ++ last) × AreLongest parts last
AreLongest (said bytes items ∷ parts) last = AreSpecial items × AreLongest parts last

-- the sink took these calls one after another
abbrev pub TakesEach : {S : Type 0} → (S → List Item → S → Type 0) → S → List (List Item) → S → Type 0
TakesEach takes old [] new = old ≡ new
TakesEach {S} takes old (call ∷ calls) new =
    (middle : S) × takes old call middle × TakesEach takes middle calls new

-- the sink took what the piece adds
pub record FeedsTo {S : Type 0} (takes : S → List Item → S → Type 0) (old : DecoderState) (piece : List ℕ)
    (before after : S) (new : DecoderState) : Type 0 where
  pub parts : List Part
  pub whole : piece ≡ bytes_of parts
  pub longest : AreLongest parts []
  pub taken : TakesEach takes before (calls_of parts) after
  pub adds : Advances old piece (all_of (calls_of parts)) new

-- The sink took the first calls for a prefix of the piece, refused one, and never saw the others.
pub record StopsAtSink {S : Type 0} (takes gives_up : S → List Item → S → Type 0) (old : DecoderState)
    (piece : List ℕ) (before after : S) : Type 0 where
  pub parts : List Part
  pub back : List ℕ
  pub whole : piece ≡ bytes_of parts ++ back
  pub longest : AreLongest parts back
  pub done : List (List Item)
  pub left : List Item
  pub unseen : List (List Item)
  pub calls : calls_of parts ≡ done ++ left ∷ unseen
  pub here : DecoderState
  pub adds : Advances old (bytes_of parts) (all_of (calls_of parts)) here
  pub middle : S
  pub taken : TakesEach takes before done middle
  pub given_up : gives_up middle left after

-- The sink took what a prefix of the piece adds, and the byte after it, a parameter, needed memory.
pub record StopsForMemory {S : Type 0} (takes : S → List Item → S → Type 0) (old : DecoderState)
    (piece : List ℕ)
    (before after : S) : Type 0 where
  pub parts : List Part
  pub byte : ℕ
  pub back : List ℕ
  pub whole : piece ≡ bytes_of parts ++ byte ∷ back
  pub longest : AreLongest parts (byte ∷ back)
  pub taken : TakesEach takes before (calls_of parts) after
  pub here : DecoderState
  pub adds : Advances old (bytes_of parts) (all_of (calls_of parts)) here
  pub wanted : KeepsParameter here byte
