-- The content of a screen whose reader may leave.
use Rattle.std.specs.Prelude.{◌≡◌, ◌⊎◌, ℕ, Bool, true, false, Option, None, List, length, Result, Ok}
use Rattle.std.specs.{Prelude.IsErrAnd, Io.KnownBytes.WriteAppends, IoError.error_kind}
use Rattle.std.specs.declared.io.{Error.Error, ErrorKind.TheVariants.BrokenPipe}

-- nothing is known of what a session's screen holds, since it may be dropped
abbrev pub held_by : Bool → Option (List ℕ) → Option (List ℕ)
held_by true held = None
held_by false held = held

-- the screen's own answer is passed on; at a session all is taken if its reader has left
abbrev pub IsHandedOn : Bool → Result ℕ Error → Result ℕ Error → List ℕ → Type 0
IsHandedOn at_session wrote result bytes =
    (result ≡ wrote)
    ⊎ ((at_session ≡ true) × IsErrAnd wrote (λ error. error_kind error ≡ BrokenPipe)
    × (result ≡ Ok (length bytes)))

-- these bytes were written to the screen itself
abbrev pub HandsOn : Bool → Option (List ℕ) → Option (List ℕ) → Result ℕ Error → List ℕ → Type 0
HandsOn at_session old new result bytes =
    (wrote : Result ℕ Error) × WriteAppends old new wrote bytes × IsHandedOn at_session wrote result bytes
