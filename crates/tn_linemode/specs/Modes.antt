-- MODE of LINEMODE (RFC 1184, section 2.2). Its mask has EDIT as bit 1, TRAPSIG as bit 2 and MODE_ACK as bit
-- 4. Of the others, SOFT_TAB and LIT_ECHO, neither end keeps any.
use Rattle.std.specs.Prelude.{ℕ, ◌<◌, ◌==◌, Bool, not, ◌||◌, Option, Some, None, bit_and, bit_or}
use Rattle.std.specs.Prelude.{if◌then◌else◌}

-- only EDIT and TRAPSIG
abbrev pub mode_of : ℕ → ℕ
mode_of mask = bit_and mask 3

-- the mask has MODE_ACK
abbrev pub is_acknowledged : ℕ → Bool
is_acknowledged mask = not (bit_and mask 4 == 0)

-- the mask has EDIT
abbrev pub edits : ℕ → Bool
edits mask = not (bit_and mask 1 == 0)

-- the mask has TRAPSIG
abbrev pub traps : ℕ → Bool
traps mask = not (bit_and mask 2 == 0)

-- a mask that has no other bit
abbrev pub IsMode : ℕ → Type 0
IsMode mask = mask < 4

-- the server's two masks: the one that it asked for last, and the one that the client acknowledged last
pub record Modes : Type 0 where
  pub asked : ℕ
  pub current : ℕ

-- nothing was asked, and nothing is in force
abbrev pub no_mode : Modes
no_mode = record { asked = 0; current = 0 }

-- the modes of the server after it requested a mask
abbrev pub modes_after_wish : Modes → ℕ → Modes
modes_after_wish m mask = record m { asked = mode_of mask }

-- a request is sent unless the same mask was asked for last
abbrev pub mask_sent : Modes → ℕ → Option ℕ
mask_sent m mask = if mode_of mask == m.asked then None else Some (mode_of mask)

-- a mask that the client sends is in force once it acknowledges one
abbrev pub modes_after_mode : Modes → ℕ → Modes
modes_after_mode m mask = if is_acknowledged mask then record m { current = mode_of mask } else m

-- any other mask of the client is its request: to edit, or not to
abbrev pub wish_of_mask : ℕ → Option Bool
wish_of_mask mask = if is_acknowledged mask then None else Some (edits mask)

-- the client changes its mask by one that the server asks for
abbrev pub client_mask_after : ℕ → ℕ → ℕ
client_mask_after current mask = if is_acknowledged mask then current else mode_of mask

-- the client acknowledges a mask that differs from its own
abbrev pub mode_answer : ℕ → ℕ → Option ℕ
mode_answer current mask =
    if is_acknowledged mask || mode_of mask == current then None else Some (bit_or (mode_of mask) 4)
