-- Spellings of bytes of data, and the room for them.
use Rattle.std.proofs.Common.{◌≡◌, ◌≤◌, ◌<◌, ◌+◌, ℕ, zero, suc, List, [], ◌∷◌, ◌++◌, length, take, get_or, Vec, vec_capacity, refl, ap, length-append, arith}
use Rattle.std.specs.List.{flat_map}
use Rattle.tn_nvt.specs.{Room.LacksRoom, Spelling.{spelling, spells}, declared.items.Item.TheVariants.Byte}
use Rattle.tn_client.specs.Replies.{byte_items}

-- bytes of data
pub spells_bytes : (bytes : List ℕ) → flat_map (λ byte. spelling (Byte byte)) bytes ≡ spells (byte_items bytes)
spells_bytes [] = refl
spells_bytes (b ∷ bs) = ap (λ (xs : List ℕ). spelling (Byte b) ++ xs) (spells_bytes bs)

-- the appended bytes and those that come next are no longer than all of it
pub no_longer : (bytes : List ℕ) (i : ℕ) → i < length bytes → length (flat_map (λ byte. spelling (Byte byte)) (take i bytes))
    + length (spelling (Byte (get_or bytes i 0))) ≤ length (flat_map (λ byte. spelling (Byte byte)) bytes)
no_longer [] i lt = absurd (omega (arith, lt))
no_longer (b ∷ bs) zero lt = omega (arith, length-append (spelling (Byte b)) (flat_map (λ byte. spelling (Byte byte)) bs))
no_longer (b ∷ bs) (suc i) lt =
    omega (
      arith,
      no_longer bs i (omega (arith, lt)),
      length-append (spelling (Byte b)) (flat_map (λ byte. spelling (Byte byte)) bs),
      length-append (spelling (Byte b)) (flat_map (λ byte. spelling (Byte byte)) (take i bs)),
    )

-- a refusal after a part was appended: all of it did not fit
pub lacks_whole : {Z : Type 0} (old mid : Vec ℕ Z) (front : List ℕ) (more whole : ℕ) → mid.items ≡ old.items ++ front → vec_capacity old ≤ vec_capacity mid
    → LacksRoom mid more → length front + more ≤ whole → LacksRoom old whole
lacks_whole old mid front more whole is kept lacks fits = omega (arith, old.ok.0, mid.ok.0, ap length is, length-append old.items front, kept, lacks, fits)
