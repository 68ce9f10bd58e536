-- The effect of each call of a held line.
use Rattle.std.specs.Prelude.{◌≡◌, ◌≢◌, ◌⊎◌, ◌<◌, ℕ, List, [], ◌∷◌, Option, None}
use Rattle.tn_codes.specs.declared.codes.Func.{Func}
use Rattle.tn_discipline.specs.{Advancing.{Advances, DropsExactly}, declared.termios.Flags.Flags}
use Rattle.tn_discipline.specs.Characters.{AreAllowed, standard_characters, slot, with_slot, char_fault}
use Rattle.tn_discipline.specs.{Echo.{echo_at, no_echo}, HalfLine.GivesText, Keys.{role_of_key, roles_of}}
use Rattle.tn_discipline.specs.HalfLine.{empty_line, line_length, line_after, effect_of, effect_entries}
use Rattle.tn_c.specs.parts.{Bytes.Gives, Entries.{effect_number, entry_given}, Faults.char_answer}
use Rattle.tn_c.specs.{parts.Readings.char_number, declared.parts.{codes.Code.Code, line.HeldLine.HeldLine}}
use Rattle.tn_c.specs.declared.parts.codes.Code.TheVariants as code

-- The call types a key.
pub record KeyCall (key old_effect new_effect : ℕ) (answer : Code) (before after : HeldLine) : Type 0 where
  pub codes : (answer ≡ code.Done) ⊎ (answer ≡ code.Memory)
  pub advances : answer ≡ code.Done → Advances before.line (roles_of before.settings (key ∷ []))
      (effect_entries (effect_of before.line (role_of_key before.settings key))) after.line
  pub dropped : answer ≡ code.Done → DropsExactly before.line (roles_of before.settings (key ∷ []))
      (effect_of before.line (role_of_key before.settings key))
  pub line : answer ≡ code.Done → after.line ≡ line_after before.line (role_of_key before.settings key)
  pub effect : answer ≡ code.Done
      → new_effect ≡ effect_number (effect_of before.line (role_of_key before.settings key))
  pub entry : answer ≡ code.Done
      → after.entry ≡ entry_given (effect_of before.line (role_of_key before.settings key))
  pub echo : answer ≡ code.Done → after.echo ≡ echo_at before.settings.flags (role_of_key before.settings key)
      (effect_of before.line (role_of_key before.settings key))
  pub settings : after.settings ≡ before.settings
  pub only_a_text : answer ≡ code.Memory → GivesText before.line (role_of_key before.settings key)
  pub err : answer ≡ code.Memory → after ≡ before
  pub err_effect : answer ≡ code.Memory → new_effect ≡ old_effect

-- The call gives the half-typed line.
pub record HalfGiven (old_buf new_buf : List ℕ) (whole : ℕ) (held : HeldLine) : Type 0 where
  pub gives : Gives held.line.held old_buf new_buf whole
  pub within : line_length held.line < held.line.limit

-- The typed bytes are as they were.
pub record KeepsTyped (before after : HeldLine) : Type 0 where
  pub line : after.line ≡ before.line
  pub entry : after.entry ≡ before.entry
  pub echo : after.echo ≡ before.echo

-- The call sets the flags.
pub record SetFlagsCall (flags : Flags) (before after : HeldLine) : Type 0 where
  pub settings : after.settings ≡ record { flags = flags; chars = before.settings.chars }
  pub keeps : KeepsTyped before after

-- The call changes a special character.
pub record SetCharCall (value : Option ℕ) (func : Func) (answer : Code) (before after : HeldLine)
    : Type 0 where
  pub ok : answer ≡ code.Done → after.settings.chars ≡ with_slot before.settings.chars func value
  pub refused : answer ≡ char_answer (char_fault before.settings.chars func value)
  pub allowed : AreAllowed after.settings.chars
  pub err : answer ≢ code.Done → after.settings ≡ before.settings
  pub flags : after.settings.flags ≡ before.settings.flags
  pub keeps : KeepsTyped before after

-- The number is that of a special character of the line.
pub record IsLineChar (held : HeldLine) (func : Func) (value : ℕ) : Type 0 where
  pub value_is : value ≡ char_number (slot held.settings.chars func)
  pub allowed : AreAllowed held.settings.chars

-- The line was just begun.
pub record IsEmpty (flags : Flags) (limit : ℕ) (held : HeldLine) : Type 0 where
  pub line : held.line ≡ empty_line limit
  pub settings : held.settings ≡ record { flags = flags; chars = standard_characters }
  pub entry : held.entry ≡ None
  pub echo : held.echo ≡ no_echo
