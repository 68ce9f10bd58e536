-- Forward masks (RFC 1184, section 2.3).
use Rattle.std.specs.Prelude.{ℕ, ◌-◌, ◌/◌, ◌%◌, ◌^◌, ◌==◌, Bool, not, List, [], ◌∷◌, ◌++◌, length, replicate}
use Rattle.std.specs.Prelude.{slice_index, bit_and, IsBitSet, if◌then◌else◌}
use Rattle.tn_codes.specs.declared.masks.Mask.{Mask}

-- character c is bit 0x80 >> (c % 8) of octet c / 8
abbrev pub HasCharacter : Mask → ℕ → Type 0
HasCharacter mask c = IsBitSet (slice_index mask.0 (c / 8)) (7 - c % 8)

-- the test whether a mask has a character
abbrev pub has_character : Mask → ℕ → Bool
has_character mask c = not (bit_and (slice_index mask.0 (c / 8)) (2 ^ (7 - c % 8)) == 0)

-- these octets with zeros after them, 32 in all
abbrev pub filled_octets : List ℕ → List ℕ
filled_octets octets = octets ++ replicate (32 - length octets) 0

-- an octet before others, but no zero before none
abbrev pub before : ℕ → List ℕ → List ℕ
before b [] = if b == 0 then [] else (b ∷ [])
before b (x ∷ xs) = b ∷ x ∷ xs

-- octets without the zeros at their end
unfoldable pub trimmed_octets : List ℕ → List ℕ
trimmed_octets [] = []
trimmed_octets (b ∷ bs) = before b (trimmed_octets bs)
