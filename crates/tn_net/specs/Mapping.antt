-- The special characters of the user's own terminal, each of which a session gets as the standard one of the
-- same function (POSIX.1-2017, XBD 11.1.9).
use Rattle.std.specs.Prelude.{◌≡◌, ℕ, Option, Some, None, if◌then◌else◌, unwrap_or}
use Rattle.tn_codes.specs.declared.codes.Func.{Func}
use Rattle.tn_codes.specs.declared.codes.Func.TheVariants as func
use Rattle.tn_discipline.specs.{Canon.Canon, Keys.standard_flags}
use Rattle.tn_discipline.specs.Characters.{Characters, is_reserved, is_set_to, slot, standard_characters}
use Rattle.tn_net.specs.declared.own_characters.OwnCharacters.{OwnCharacters}

-- no character is the user's own
abbrev pub none_own : OwnCharacters
none_own = record { intr = None; quit = None; susp = None; erase = None; kill = None; eof = None }

-- the user's own are the standard ones
abbrev pub standard_own : OwnCharacters
standard_own =
    record {
      intr = standard_characters.intr;
      quit = standard_characters.quit;
      susp = standard_characters.susp;
      erase = standard_characters.erase;
      kill = standard_characters.kill;
      eof = standard_characters.eof;
    }

-- the function of the user's own character that this byte is; of several the first, in the order of this list
abbrev pub own_function : OwnCharacters → ℕ → Option Func
own_function own byte =
    if is_set_to own.intr byte then Some func.Ip else
    (if is_set_to own.quit byte then Some func.Abort else
    (if is_set_to own.susp byte then Some func.Susp else
    (if is_set_to own.erase byte then Some func.Ec else
    (if is_set_to own.kill byte then Some func.El else
    (if is_set_to own.eof byte then Some func.Eof else None)))))

-- the standard character of a function; the byte itself if there is none
abbrev pub standard_for : Option Func → ℕ → ℕ
standard_for None byte = byte
standard_for (Some f) byte = unwrap_or (slot standard_characters f) byte

-- the byte that a session gets for a typed one: a line feed, a carriage return and 255 stay what they are,
-- whatever they are to the user's terminal
abbrev pub mapped : OwnCharacters → ℕ → ℕ
mapped own byte = if is_reserved byte then byte else standard_for (own_function own byte) byte

-- the special characters of the user's own terminal, without EOL and EOL2
abbrev pub characters_of : OwnCharacters → Characters
characters_of own =
    record {
      intr = own.intr;
      quit = own.quit;
      eof = own.eof;
      susp = own.susp;
      erase = own.erase;
      kill = own.kill;
      eol = None;
      eol2 = None;
    }

-- a terminal with standard flags, these characters and this limit
abbrev pub terminal_with : Characters → ℕ → Canon
terminal_with chars limit = record {
  settings = record { flags = standard_flags; chars = chars };
  limit = limit;
}

-- a key that is one of the user's own characters, or none of the standard ones
abbrev pub IsOfUser : OwnCharacters → ℕ → Type 0
IsOfUser own key = own_function own key ≡ None → own_function standard_own key ≡ None
