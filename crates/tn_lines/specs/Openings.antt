-- By what a service is known that speaks Telnet: its first two bytes are a command that negotiates an option.
use Rattle.std.specs.Prelude.{◌≡◌, ⊤, ℕ, ◌+◌, ◌==◌, ◌&&◌, nat_le, Bool, true, false, not, Option, Some, None}
use Rattle.std.specs.Prelude.{option_map, List, [], ◌∷◌, ◌++◌}
use Rattle.tn_lines.specs.declared.opening.Opening.{Opening, TheVariants.{Nothing, First, Both}}

-- IAC, and then WILL, WONT, DO or DONT (RFC 854)
abbrev pub is_option : ℕ → ℕ → Bool
is_option first second = first == 255 && (nat_le 251 second && nat_le second 254)

-- the bytes begin with a command of Telnet that negotiates an option
abbrev pub negotiates : List ℕ → Bool
negotiates [] = false
negotiates (first ∷ []) = false
negotiates (first ∷ second ∷ bytes) = is_option first second

-- these bytes came
abbrev pub opening_of : List ℕ → Opening
opening_of [] = Nothing
opening_of (first ∷ []) = First first
opening_of (first ∷ second ∷ bytes) = Both

-- After any bytes that came before, these bytes lead to the new opening; and they are the ones by which it
-- shows.
pub record Hears (old : Opening) (bytes : List ℕ) (shows : Bool) (new : Opening) : Type 0 where
  pub leads : (before : List ℕ) → old ≡ opening_of before → new ≡ opening_of (before ++ bytes)
  pub told : (before : List ℕ) → old ≡ opening_of before
      → shows ≡ (negotiates (before ++ bytes) && not (negotiates before))

-- the number of warnings to the user for a service that sent this
abbrev pub warnings_if : Bool → ℕ
warnings_if true = 1
warnings_if false = 0

-- the known number of warnings after one more, or after none
abbrev pub warned_on : Bool → Option ℕ → Option ℕ
warned_on true told = option_map (λ n. n + 1) told
warned_on false told = told

-- this number of warnings more, if it is known how many there were
abbrev pub Rises : Option ℕ → Option ℕ → ℕ → Type 0
Rises None new more = ⊤
Rises (Some old) None more = ⊥
Rises (Some old) (Some new) more = new ≡ old + more

-- These bytes came, and the user was warned if they show it.
pub record Listens (bytes : List ℕ) (old : Opening) (told : Option ℕ) (new : Opening)
    (tells : Option ℕ) : Type 0 where
  pub shows : Bool
  pub hears : Hears old bytes shows new
  pub warns : tells ≡ warned_on shows told
