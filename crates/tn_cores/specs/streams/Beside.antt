-- The reports of a reader besides its bytes: the sizes of the window in which they are typed, the control
-- functions that are requested between them, and its last words.
use Rattle.std.specs.Prelude.{◌≡◌, ◌⊎◌, ℕ, Option, Some, None, List, [], ◌∷◌, ◌++◌}

-- the next of these was reported, or none; if they are not known, they stay so
abbrev pub TellsNext : {A : Type 0} → Option (List A) → Option A → Option (List A) → Type 0
TellsNext None told new = new ≡ None
TellsNext (Some old) None new = new ≡ Some old
TellsNext {A} (Some old) (Some one) new = (later : List A) × (old ≡ one ∷ later) × (new ≡ Some later)

-- the values were reported, one after another
abbrev pub TellsList : {A : Type 0} → Option (List A) → List A → Option (List A) → Type 0
TellsList None told new = new ≡ None
TellsList {A} (Some old) told new = (later : List A) × (old ≡ told ++ later) × (new ≡ Some later)

-- the first of them were reported
abbrev pub TellsFirst : {A : Type 0} → Option (List A) → List A → Type 0
TellsFirst {A} all told = (later : Option (List A)) × TellsList all told later

-- its last words are one of these
abbrev pub IsOneOf : List (List ℕ) → List ℕ → Type 0
IsOneOf [] words = ⊥
IsOneOf (one ∷ more) words = (words ≡ one) ⊎ IsOneOf more words

-- the reader has no last words
abbrev pub no_words : List (List ℕ)
no_words = [] ∷ []
