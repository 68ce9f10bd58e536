-- Fronts: of the items to be sent, and of a stream.
use Rattle.std.specs.Prelude.{◌≡◌, ℕ, List, [], ◌∷◌, ◌++◌}
use Rattle.tn_nvt.specs.{Spelling.spells, Feeding.{DecoderState, KeepsParameter}, Stream.Reading}
use Rattle.tn_nvt.specs.declared.items.Item.{Item}

-- a prefix of these items was appended
pub record AppendsPrefix (whole : List Item) (before after : List ℕ) : Type 0 where
  pub part : List Item
  pub rest : List Item
  pub whole_is : whole ≡ part ++ rest
  pub appended : after ≡ before ++ spells part

-- these are the items of these bytes
abbrev pub IsRead : List ℕ → List Item → Type 0
IsRead bytes xs = (rest : List ℕ) × Reading bytes xs rest

-- the decoder needs memory for the next byte of the stream, a parameter
abbrev pub WantsMemory : DecoderState → List ℕ → Type 0
WantsMemory here [] = ⊥
WantsMemory here (byte ∷ bytes) = KeepsParameter here byte
