-- The last words to the peer of a server's connection: why its end came, if neither the peer nor a job asked
-- for it.
use Rattle.std.specs.Prelude.{ℕ, Option, Some, None, List, [], ◌∷◌, codes}
use Rattle.tn_net.specs.declared.attended.Why.{Why, TheVariants.{Closing, Idle, TooLong}}

-- the last words for this reason, or none
abbrev pub line_of : Option Why → List ℕ
line_of None = []
line_of (Some Idle) = codes "idle\n"
line_of (Some TooLong) = codes "too long\n"
line_of (Some Closing) = codes "closing\n"

-- all last words that there may be
abbrev pub last_lines : List (List ℕ)
last_lines = line_of None ∷ line_of (Some Idle) ∷ line_of (Some TooLong) ∷ line_of (Some Closing) ∷ []
