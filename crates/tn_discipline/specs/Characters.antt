-- The special characters of a terminal (POSIX.1-2017, XBD 11.1.9), each under the function of the set of
-- local characters that stands for it on the wire (RFC 1184, section 2.4).
use Rattle.std.specs.Prelude.{◌≡◌, ℕ, Bool, false, IsFalse, not, ◌&&◌, ◌||◌, ◌==◌, Option, Some, None, List}
use Rattle.std.specs.{Prelude.{[], ◌∷◌, if◌then◌else◌}, List.list_any}
use Rattle.tn_codes.specs.{Codes.func_code, declared.codes.Func.Func}
use Rattle.tn_codes.specs.declared.codes.Func.TheVariants as func
use Rattle.tn_discipline.specs.declared.characters.CharFault.{CharFault}
use Rattle.tn_discipline.specs.declared.characters.CharFault.TheVariants.{NotSettable, Reserved, Taken}

-- the special characters: each a byte, or disabled
pub record Characters : Type 0 where
  pub intr : Option ℕ
  pub quit : Option ℕ
  pub eof : Option ℕ
  pub susp : Option ℕ
  pub erase : Option ℕ
  pub kill : Option ℕ
  pub eol : Option ℕ
  pub eol2 : Option ℕ

-- the character of a function; none if the function has no special character
abbrev pub slot : Characters → Func → Option ℕ
slot c func.Ip = c.intr
slot c func.Abort = c.quit
slot c func.Eof = c.eof
slot c func.Susp = c.susp
slot c func.Ec = c.erase
slot c func.El = c.kill
slot c func.Forw1 = c.eol
slot c func.Forw2 = c.eol2
slot c _ = None

-- the characters with that of one function changed
abbrev pub with_slot : Characters → Func → Option ℕ → Characters
with_slot c func.Ip value = record c { intr = value }
with_slot c func.Abort value = record c { quit = value }
with_slot c func.Eof value = record c { eof = value }
with_slot c func.Susp value = record c { susp = value }
with_slot c func.Ec value = record c { erase = value }
with_slot c func.El value = record c { kill = value }
with_slot c func.Forw1 value = record c { eol = value }
with_slot c func.Forw2 value = record c { eol2 = value }
with_slot c _ value = c

-- the characters with each changed in the same way
abbrev pub with_each : (Option ℕ → Option ℕ) → Characters → Characters
with_each change c =
    record {
      intr = change c.intr;
      quit = change c.quit;
      eof = change c.eof;
      susp = change c.susp;
      erase = change c.erase;
      kill = change c.kill;
      eol = change c.eol;
      eol2 = change c.eol2;
    }

-- the functions that have a special character, in rising number
abbrev pub special_functions : List Func
special_functions =
    func.Ip ∷ func.Abort ∷ func.Eof ∷ func.Susp ∷ func.Ec ∷ func.El ∷ func.Forw1 ∷ func.Forw2 ∷ []

-- the two functions are equal
abbrev pub is_same : Func → Func → Bool
is_same f g = func_code f == func_code g

-- the function has a special character
abbrev pub is_settable : Func → Bool
is_settable f = list_any (λ g. is_same g f) special_functions

-- a line feed, a carriage return and 255 are never special characters
abbrev pub is_reserved : ℕ → Bool
is_reserved byte = byte == 10 || byte == 13 || byte == 255

-- the character is set, to this byte
abbrev pub is_set_to : Option ℕ → ℕ → Bool
is_set_to None byte = false
is_set_to (Some character) byte = character == byte

-- the byte is the character of another function
abbrev pub is_taken : Characters → Func → ℕ → Bool
is_taken c f byte = list_any (λ g. not (is_same g f) && is_set_to (slot c g) byte) special_functions

-- why a settable character cannot have this value; it can always be disabled
abbrev pub value_fault : Characters → Func → Option ℕ → Option CharFault
value_fault c f None = None
value_fault c f (Some byte) =
    if is_reserved byte then Some Reserved else (if is_taken c f byte then Some Taken else None)

-- why the character of a function cannot be changed to this value
abbrev pub char_fault : Characters → Func → Option ℕ → Option CharFault
char_fault c f value = if is_settable f then value_fault c f value else Some NotSettable

-- no byte is the character of two functions, and none is reserved
pub record AreAllowed (c : Characters) : Type 0 where
  pub distinct : (f g : Func) (byte : ℕ) → slot c f ≡ Some byte → slot c g ≡ Some byte → f ≡ g
  pub unreserved : (f : Func) (byte : ℕ) → slot c f ≡ Some byte → IsFalse (is_reserved byte)

-- control-C, control-backslash, control-D, control-Z, delete and control-U; EOL and EOL2 are disabled
abbrev pub standard_characters : Characters
standard_characters =
    record {
      intr = Some 3;
      quit = Some 28;
      eof = Some 4;
      susp = Some 26;
      erase = Some 127;
      kill = Some 21;
      eol = None;
      eol2 = None;
    }
