-- The form in which the launcher passes the special characters of a terminal.
use Rattle.std.specs.Prelude.{ℕ, nat_eq, Option, Some, None, List, option_map, slice_index, if◌then◌else◌}
use Rattle.std.specs.Result.{result_ok}
use Rattle.hex.specs.Hex.{decode_sized}
use Rattle.tn_net.specs.declared.own_characters.OwnCharacters.{OwnCharacters}

-- 0 stands for a character that is disabled (POSIX.1-2017, XBD 11.1.9, _POSIX_VDISABLE)
abbrev pub character_as : ℕ → Option ℕ
character_as byte = if nat_eq byte 0 then None else Some byte

-- six bytes, each of one character
abbrev pub own_as : List ℕ → OwnCharacters
own_as bytes =
    record {
      intr = character_as (slice_index bytes 0);
      quit = character_as (slice_index bytes 1);
      susp = character_as (slice_index bytes 2);
      erase = character_as (slice_index bytes 3);
      kill = character_as (slice_index bytes 4);
      eof = character_as (slice_index bytes 5);
    }

-- two hexadecimal digits for each of the six bytes
abbrev pub own_in : List ℕ → Option OwnCharacters
own_in text = option_map own_as (result_ok (decode_sized text 6))
