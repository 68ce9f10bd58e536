-- The end of a service, which ends the session that is joined to it.
use Rattle.std.specs.Prelude.{◌≡◌, ◌≢◌, ℕ, Bool, true, Option, option_map, Result, Ok, Err}
use Rattle.std.specs.{IoError.error_kind, declared.io.{Error.Error, ErrorKind.TheVariants.Interrupted}}

-- after a hang-up, if it is counted
abbrev pub hung_up_on : Option Bool → Option Bool
hung_up_on counted = option_map (λ _. true) counted

-- the service has closed its side, or the read failed
abbrev pub IsLast : Result ℕ Error → Type 0
IsLast (Ok count) = count ≡ 0
IsLast (Err error) = error_kind error ≢ Interrupted

-- The last read hangs up, and no other read does.
pub record HangsUpAtEnd (read : Result ℕ Error) (old new : Option Bool) : Type 0 where
  pub last : IsLast read → new ≡ hung_up_on old
  pub other : ¬ IsLast read → new ≡ old
