-- Items that wait, of which bytes of data stand in runs.
use Rattle.std.specs.Prelude.{◌≡◌, ◌<◌, ◌+◌, ℕ, List, [], ◌∷◌, ◌++◌, length, map, take, drop, All}
use Rattle.tn_nvt.specs.declared.items.Item.{Item, TheVariants.{Byte, Newline, Cmd, Neg, Sub}}
use Rattle.tn_c.specs.declared.parts.waiting.Part.{Part, TheVariants.{Run, One}}

-- the items of parts, whose runs have these bytes
abbrev pub woven : List ℕ → List Part → List Item
woven bytes [] = []
woven bytes (Run count ∷ parts) = map Byte (take count bytes) ++ woven (drop count bytes) parts
woven bytes (One item ∷ parts) = item ∷ woven bytes parts

-- the number of bytes in the runs
abbrev pub run_bytes : List Part → ℕ
run_bytes [] = 0
run_bytes (Run count ∷ parts) = count + run_bytes parts
run_bytes (One item ∷ parts) = run_bytes parts

-- some bytes were taken, some are left of a run, and the parts come after it
abbrev pub items_in : ℕ → ℕ → List ℕ → List Part → List Item
items_in from left bytes parts =
    map Byte (take left (drop from bytes)) ++ woven (drop left (drop from bytes)) parts

-- the item is no byte of data
abbrev pub IsOther : Item → Type 0
IsOther (Byte byte) = ⊥
IsOther Newline = Unit {0}
IsOther (Cmd command) = Unit {0}
IsOther (Neg verb option) = Unit {0}
IsOther (Sub option params) = Unit {0}

-- a run has a byte, and no byte stands outside of a run
abbrev pub IsFilled : Part → Type 0
IsFilled (Run count) = 0 < count
IsFilled (One item) = IsOther item

-- each byte that was not taken is of a run
pub record IsWhole (from left : ℕ) (bytes : List ℕ) (parts : List Part) : Type 0 where
  pub counts : from + (left + run_bytes parts) ≡ length bytes
  pub filled : All IsFilled parts

-- a run is the first part
abbrev pub StartsWithRun : List Part → Type 0
StartsWithRun [] = ⊥
StartsWithRun (Run count ∷ parts) = Unit {0}
StartsWithRun (One item ∷ parts) = ⊥

-- a byte of data stands first
abbrev pub StartsWithData : List Item → Type 0
StartsWithData [] = ⊥
StartsWithData (Byte byte ∷ items) = Unit {0}
StartsWithData (item ∷ items) = ⊥

-- these bytes came as a run, and those that were taken are gone
pub record Appends (from : ℕ) (old more new : List ℕ) (parts parts_then : List Part) : Type 0 where
  pub bytes : new ≡ drop from old ++ more
  pub parts_are : parts_then ≡ parts ++ Run (length more) ∷ []

-- nothing came, and those that were taken are gone
pub record Stays (from : ℕ) (old new : List ℕ) (parts parts_then : List Part) : Type 0 where
  pub bytes : new ≡ drop from old
  pub parts_are : parts_then ≡ parts

-- these items were added
abbrev pub AddsItems : List Item → List Item → List Item → Type 0
AddsItems old items new = new ≡ old ++ items

-- none of them was
abbrev pub AddsNone : List Item → List Item → List Item → Type 0
AddsNone old items new = new ≡ old
