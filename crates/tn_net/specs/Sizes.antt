-- The form in which the size of a window is sent: a line of its width and its height, five characters each, a
-- space between them and a line feed after them.
use Rattle.std.specs.Prelude.{◌≡◌, ◌≤◌, ◌+◌, ◌-◌, ◌*◌, ◌==◌, ◌&&◌, nat_le, ℕ, List, [], ◌∷◌, Option, Some}
use Rattle.std.specs.Prelude.{None, option_and_then, take, drop, length, if◌then◌else◌}
use Rattle.tn_cores.specs.declared.streams.window.WindowSize.{WindowSize}

-- one character more after a number; a space adds nothing
abbrev pub with_digit : ℕ → ℕ → Option ℕ
with_digit n c =
    if c == 32 then Some n else (if nat_le 48 c && nat_le c 57 then Some (n * 10 + (c - 48)) else None)

-- the number that more digits give, after this one
unfoldable pub number_from : Option ℕ → List ℕ → Option ℕ
number_from o [] = o
number_from o (c ∷ cs) = number_from (option_and_then (λ n. with_digit n c) o) cs

-- the number that these characters make
abbrev pub number_of : List ℕ → Option ℕ
number_of = number_from (Some 0)

-- the last of these lines
abbrev pub last_line : List ℕ → List ℕ
last_line lines = drop (length lines - 12) lines

-- the last of these lines has this size
pub record IsTold (size : WindowSize) (lines : List ℕ) : Type 0 where
  pub whole : 12 ≤ length lines
  pub width : number_of (take 5 (last_line lines)) ≡ Some size.width
  pub height : number_of (take 5 (drop 6 (last_line lines))) ≡ Some size.height
