-- The roles of typed bytes in the line discipline.
use Rattle.std.specs.Prelude.{ℕ, Bool, true, false, ◌&&◌, ◌==◌, Option, Some, None, List, [], ◌∷◌, map}
use Rattle.std.specs.{Prelude.if◌then◌else◌, List.filter_map}
use Rattle.tn_discipline.specs.{Characters.{Characters, is_set_to}, declared.reads.Sig.Sig}
use Rattle.tn_discipline.specs.declared.{termios.Flags.Flags, keys.Role.{Role, TheVariants.{Kill, Ordinary}}}
use Rattle.tn_discipline.specs.declared.{termios.Settings.Settings, reads.Sig.TheVariants.{Int, Quit, Tstp}}
use Rattle.tn_discipline.specs.declared.keys.Role.TheVariants.{Ignored, Nl, Eol, Eol2, Eof, Signal, Erase}

-- the flags of a new terminal
abbrev pub standard_flags : Flags
standard_flags =
    record {
      icrnl = true;
      inlcr = false;
      igncr = false;
      isig = true;
      echo = true;
      echoe = true;
      echok = true;
      echonl = false;
      tostop = false;
      opost = true;
      onlcr = true;
    }

-- XBD 11.2.2, IGNCR and ICRNL: what a carriage return becomes
abbrev pub mapped_return : Flags → Option ℕ
mapped_return flags = if flags.igncr then None else (if flags.icrnl then Some 10 else Some 13)

-- XBD 11.2.2, INLCR: what a typed byte becomes; none is mapped twice
abbrev pub mapped_key : Flags → ℕ → Option ℕ
mapped_key flags key =
    if key == 13 then mapped_return flags else (if key == 10 && flags.inlcr then Some 13 else Some key)

-- XBD 11.2.2: the typed bytes, each mapped once; a carriage return that is dropped is absent
abbrev pub mapped_keys : Flags → List ℕ → List ℕ
mapped_keys flags keys = filter_map (mapped_key flags) keys

-- XBD 11.1.9, INTR, QUIT and SUSP: the signal of a byte
abbrev pub signal_of : Characters → ℕ → Option Sig
signal_of chars byte =
    if is_set_to chars.intr byte then Some Int else
    (if is_set_to chars.quit byte then Some Quit else
    (if is_set_to chars.susp byte then Some Tstp else None))

-- XBD 11.2.5, ISIG: without it a signal character is ordinary
abbrev pub role_by_signal : Bool → Option Sig → ℕ → Role
role_by_signal true (Some sig) byte = Signal sig
role_by_signal true None byte = Ordinary byte
role_by_signal false signal byte = Ordinary byte

-- XBD 11.1.9: the role of a mapped byte
abbrev pub role_of_mapped : Settings → ℕ → Role
role_of_mapped settings byte =
    if byte == 10 then Nl else
    (if is_set_to settings.chars.eol byte then Eol byte else
    (if is_set_to settings.chars.eol2 byte then Eol2 byte else
    (if is_set_to settings.chars.eof byte then Eof else
    (if is_set_to settings.chars.erase byte then Erase else
    (if is_set_to settings.chars.kill byte then Kill else
    role_by_signal settings.flags.isig (signal_of settings.chars byte) byte)))))

-- the roles of the typed bytes
abbrev pub roles_of : Settings → List ℕ → List Role
roles_of settings keys = map (role_of_mapped settings) (mapped_keys settings.flags keys)

-- the role of a mapped byte; Ignored if the mapping dropped it
abbrev pub role_or_ignored : Settings → Option ℕ → Role
role_or_ignored settings None = Ignored
role_or_ignored settings (Some byte) = role_of_mapped settings byte

-- the role of one typed byte; Ignored if it is dropped
abbrev pub role_of_key : Settings → ℕ → Role
role_of_key settings key = role_or_ignored settings (mapped_key settings.flags key)

-- the role of a byte of a line that was edited before it came: only the closing bytes have a meaning
abbrev pub literal_role : Characters → ℕ → Role
literal_role chars byte =
    if byte == 10 then Nl else
    (if is_set_to chars.eol byte then Eol byte
    else (if is_set_to chars.eol2 byte then Eol2 byte else Ordinary byte))

-- the roles that one role stands for: none for Ignored
abbrev pub roles_from : Role → List Role
roles_from Ignored = []
roles_from r = r ∷ []

-- a key of this role makes an entry
abbrev pub gives_entry : Role → Bool
gives_entry Nl = true
gives_entry (Eol byte) = true
gives_entry (Eol2 byte) = true
gives_entry Eof = true
gives_entry (Signal sig) = true
gives_entry _ = false
