-- Why a piece was not read to its end into a list.
use Rattle.std.specs.Prelude.{◌≡◌, ℕ, List}
use Rattle.tn_nvt.specs.{Feeding.{DecoderState, failed, StopsWithin}, declared.decoding.NvtFault.NvtFault}
use Rattle.tn_nvt.specs.declared.items.Item.{Item}
use Rattle.tn_nvt.specs.declared.decoding.NvtFault.TheVariants as fault

-- Memory ran out within the piece, or the decoder had failed before, and then nothing was appended. A list
-- refuses no item.
abbrev pub Stops : DecoderState → List ℕ → List Item → List Item → ℕ → NvtFault → Type 0
Stops old piece before after room fault.Memory = StopsWithin old piece before after room
Stops old piece before after room fault.Failed = (old ≡ failed) × (after ≡ before)
Stops old piece before after room fault.Refused = ⊥
