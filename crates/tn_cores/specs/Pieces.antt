-- The bytes that messages bring, and how many of them were taken.
use Rattle.std.specs.Prelude.{◌≡◌, ℕ, Bool, IsFalse, List, [], ◌++◌}
use Rattle.tn_cores.specs.declared.messages.Message.{Message, TheVariants.Piece}
use Rattle.tn_nvt.specs.{Feeding.DecoderState, declared.items.Item.Item}
use Rattle.tn_nvt.specs.Feeding as nvt
use Rattle.tn_linemode.specs.Prefixes.{WantsMemory}

-- the bytes that a message brings
abbrev pub bytes_in : Message → List ℕ
bytes_in (Piece piece) = piece
bytes_in _ = []

-- after a stream with these items, a byte of the piece is a parameter that is kept
abbrev pub WantsMemoryWithin : List ℕ → List Item → List ℕ → Type 0
WantsMemoryWithin stream had piece =
    (front : List ℕ) × (back : List ℕ) × (piece ≡ front ++ back) × (xs : List Item) × (here : DecoderState)
    × nvt.LeadsTo (stream ++ front) (had ++ xs) here × WantsMemory here back

-- the part that was taken is a prefix of what came, and all of it as long as messages have their effect
pub record TakesFront {A : Type 0} (over : Bool) (all taken : List A) : Type 0 where
  pub rest : List A
  pub front : all ≡ taken ++ rest
  pub whole : IsFalse over → rest ≡ []
