-- The meaning of one triple of a list of local characters (RFC 1184, section 2.4): a function, a modifier and
-- a character.
use Rattle.std.specs.Prelude.{ℕ, ◌==◌, Bool, IsTrue, IsFalse, not, Option, Some, None, find, bit_and, bit_or}
use Rattle.std.specs.Prelude.{if◌then◌else◌}
use Rattle.tn_codes.specs.{Codes.func_code, declared.{codes.{Func.Func, Level.Level}, triples.Triple.Triple}}
use Rattle.tn_codes.specs.declared.codes.Level.TheVariants as level
use Rattle.tn_discipline.specs.Characters.{slot, special_functions, standard_characters, is_settable}
use Rattle.tn_discipline.specs.Characters.{is_set_to}
use Rattle.tn_linemode.specs.declared.triples.Saying.{Saying}
use Rattle.tn_linemode.specs.declared.triples.Saying.TheVariants as saying

-- the modifier has SLC_ACK
abbrev pub has_ack : Triple → Bool
has_ack t = not (bit_and t.flags 128 == 0)

-- the two low bits of the modifier. Those of flushing, 64 and 32, and the others do not matter
abbrev pub level_at : ℕ → Level
level_at bits =
    if bits == 0 then level.NoSupport else
    (if bits == 1 then level.CantChange else (if bits == 2 then level.Value else level.ByDefault))

-- the level of a triple
abbrev pub level_of : Triple → Level
level_of t = level_at (bit_and t.flags 3)

-- the function of a code, if it has a character
abbrev pub special_at : ℕ → Option Func
special_at code = find (λ f. func_code f == code) special_functions

-- the character that a function with a character is to have: 255 disables it
abbrev pub wanted_character : Func → Level → ℕ → Option ℕ
wanted_character f level.NoSupport value = None
wanted_character f level.CantChange value = if value == 255 then None else Some value
wanted_character f level.Value value = if value == 255 then None else Some value
wanted_character f level.ByDefault value = slot standard_characters f

-- function 0 stands for all: "use your standard characters and send me yours", and "send me yours"
abbrev pub saying_of_all : Level → Bool → Saying
saying_of_all level.NoSupport zero = saying.Nothing
saying_of_all level.CantChange zero = saying.Nothing
saying_of_all level.Value zero = if zero then saying.Table else saying.Nothing
saying_of_all level.ByDefault zero = if zero then saying.Standard else saying.Nothing

-- the meaning of a triple about a function that has no character in the table
abbrev pub saying_of_other : Level → ℕ → Saying
saying_of_other level.NoSupport code = saying.Nothing
saying_of_other level.CantChange code = saying.Unsupported code
saying_of_other level.Value code = saying.Unsupported code
saying_of_other level.ByDefault code = saying.Unsupported code

-- the meaning of a triple about a function, if it has a character
abbrev pub saying_of_function : Option Func → Level → ℕ → ℕ → Saying
saying_of_function (Some f) l code value = saying.Character f (wanted_character f l value)
saying_of_function None l code value = saying_of_other l code

-- the meaning of a triple
abbrev pub saying_of : Triple → Saying
saying_of t =
    if t.func == 0 then saying_of_all (level_of t) (t.value == 0) else
    saying_of_function (special_at t.func) (level_of t) t.func t.value

-- a function has no character
abbrev pub unsupported_triple : ℕ → Triple
unsupported_triple code = record { func = code; flags = 0; value = 0 }

-- the plain triple by which a function has this character, at the level SLC_VALUE, or none
abbrev pub triple_of : Func → Option ℕ → Triple
triple_of f None = unsupported_triple (func_code f)
triple_of f (Some value) = record { func = func_code f; flags = 2; value = value }

-- a triple as an acknowledgement
abbrev pub acknowledged_triple : Triple → Triple
acknowledged_triple t = record t { flags = bit_or t.flags 128 }

-- the meaning that a triple can have for a function with a character: 255 is never its character
pub record IsOffer (f : Func) (value : Option ℕ) : Type 0 where
  pub settable : IsTrue (is_settable f)
  pub no_escape : IsFalse (is_set_to value 255)
