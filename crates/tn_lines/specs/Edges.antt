-- The bytes that a screen shows of a service's bytes: as they are, and at a terminal with a carriage return
-- before each line feed that has none.
use Rattle.std.specs.Prelude.{◌≡◌, ℕ, ◌==◌, Bool, false, not, ◌&&◌, List, [], ◌∷◌, ◌++◌, if◌then◌else◌}
use Rattle.tn_lines.specs.{Said.ends_in_return, declared.left_edge.LeftEdge.LeftEdge}

-- the bytes that the screen shows of a byte
abbrev pub byte_shown : Bool → Bool → ℕ → List ℕ
byte_shown at_terminal after_return byte =
    if byte == 10 then (if at_terminal && not after_return then 13 ∷ 10 ∷ [] else byte ∷ []) else byte ∷ []

-- a carriage return came before them, or did not
abbrev pub shown_from : Bool → Bool → List ℕ → List ℕ
shown_from at_terminal after_return [] = []
shown_from at_terminal after_return (byte ∷ bytes) =
    byte_shown at_terminal after_return byte ++ shown_from at_terminal (byte == 13) bytes

-- the bytes that the screen shows of a service's bytes
abbrev pub at_screen : Bool → List ℕ → List ℕ
at_screen at_terminal bytes = shown_from at_terminal false bytes

-- these bytes were taken
abbrev pub HasShown : List ℕ → LeftEdge → Type 0
HasShown bytes edge = edge.after_return ≡ ends_in_return false bytes

-- After any bytes that were taken before, these bytes lead to the new edge; and these bytes more are shown.
pub record ShowsOn (old : LeftEdge) (bytes shown : List ℕ) (new : LeftEdge) : Type 0 where
  pub leads : (before : List ℕ) → HasShown before old → HasShown (before ++ bytes) new
  pub shows : (before : List ℕ) → HasShown before old
      → at_screen old.at_terminal (before ++ bytes) ≡ at_screen old.at_terminal before ++ shown
  pub at_terminal : new.at_terminal ≡ old.at_terminal
