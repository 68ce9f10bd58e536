-- The bytes of a service, as a terminal is to write them: a new line is a line feed, for which a service may
-- send a carriage return and a line feed.
use Rattle.std.specs.Prelude.{ℕ, ◌==◌, ◌&&◌, Bool, true, false, List, [], ◌∷◌, ◌++◌, if◌then◌else◌}

-- a carriage return, 13, that a line feed, 10, follows is left out; another one stays
unfoldable pub new_lines : List ℕ → List ℕ
new_lines [] = []
new_lines (byte ∷ []) = byte ∷ []
new_lines (byte ∷ next ∷ bytes) =
    if byte == 13 && next == 10 then new_lines (next ∷ bytes) else byte ∷ new_lines (next ∷ bytes)

-- the bytes that are shown without a carriage return at the end, which a line feed may still follow
unfoldable pub settled : List ℕ → List ℕ
settled [] = []
settled (byte ∷ []) = if byte == 13 then [] else byte ∷ []
settled (byte ∷ next ∷ bytes) =
    if byte == 13 && next == 10 then settled (next ∷ bytes) else byte ∷ settled (next ∷ bytes)

-- the bytes end with a carriage return
unfoldable pub ends_by_return : List ℕ → Bool
ends_by_return [] = false
ends_by_return (byte ∷ []) = byte == 13
ends_by_return (byte ∷ next ∷ bytes) = ends_by_return (next ∷ bytes)

-- the carriage return that waits, if one does
abbrev pub waiting : Bool → List ℕ
waiting true = 13 ∷ []
waiting false = []

-- The text that is shown of reads, one after another, of which an interrupted one gave nothing. The bytes
-- before and after that are shown by themselves: a carriage return does not wait any longer.
unfoldable pub shown_of : List ℕ → List (List ℕ) → List ℕ
shown_of front [] = new_lines front
shown_of front ([] ∷ reads) = new_lines front ++ shown_of [] reads
shown_of front ((byte ∷ bytes) ∷ reads) = shown_of (front ++ byte ∷ bytes) reads
