-- The statement of any call on its content: R code before after, of its code and of the content before and
-- after.
use Rattle.std.specs.Prelude.{◌≡◌, ◌≢◌, ◌↔◌, ℕ}
use Rattle.tn_codes.specs.{Codes.func_code, declared.codes.Func.Func}
use Rattle.tn_c.specs.declared.parts.codes.Code.{Code}
use Rattle.tn_c.specs.declared.parts.codes.Code.TheVariants as code

-- The call was done, and only looked: this is so of what is held.
pub record Looks {X : Type 0} (F : X → Type 0) (answer : Code) (before after : X) : Type 0 where
  pub done : answer ≡ code.Done
  pub same : after ≡ before
  pub found : F before

-- The call only looked, and this is so of its code and of what is held.
pub record LooksBy {X : Type 0} (F : X → Code → Type 0) (answer : Code) (before after : X) : Type 0 where
  pub same : after ≡ before
  pub found : F before answer

-- The call was done, and this relates what was held and what is held.
pub record Does {X : Type 0} (F : X → X → Type 0) (answer : Code) (before after : X) : Type 0 where
  pub done : answer ≡ code.Done
  pub did : F before after

-- The call is about the function with this number (RFC 1184, section 2.4), if there is one.
pub record OfFunction {X : Type 0} (number : ℕ) (R : Func → Code → X → X → Type 0) (answer : Code)
    (before after : X) : Type 0 where
  pub known : (func : Func) → func_code func ≡ number → R func answer before after
  pub unknown : (answer ≡ code.NoFunction) ↔ ((func : Func) → func_code func ≢ number)
  pub stays : answer ≡ code.NoFunction → after ≡ before

-- The call was done, and this is so.
pub record GivesSome (given : Type 0) (answer : Code) : Type 0 where
  pub done : answer ≡ code.Done
  pub so : given

-- The special character of the function with this number was given: such a value, of what is held.
pub record GivesChar {X : Type 0} (number old_value new_value : ℕ) (IsChar : X → Func → ℕ → Type 0)
    (answer : Code) (before after : X) : Type 0 where
  pub function : OfFunction number (λ func a held _. GivesSome (IsChar held func new_value) a)
      answer before after
  pub same : after ≡ before
  pub unwritten : answer ≡ code.NoFunction → new_value ≡ old_value
