-- The entries and the half-typed line of a server end, by the canonical definitions.
use Rattle.std.specs.Prelude.{ℕ, ◌+◌, nat_lt, Bool, List, [], ◌++◌, length, drop, if◌then◌else◌}
use Rattle.tn_discipline.specs.{Keys.{role_of_key, literal_role, roles_from}, Entries.{entries_of, half_of}}
use Rattle.tn_discipline.specs.{HalfLine.HalfLine, declared.{keys.Role.Role, reads.Entry.Entry}}
use Rattle.tn_discipline.specs.declared.termios.Settings.{Settings}
use Rattle.tn_discipline.specs.declared.keys.Role.TheVariants as role
use Rattle.tn_linemode.specs.Modes.{edits}
use Rattle.tn_nvt.specs.declared.items.Item.{Item, TheVariants.{Byte, Newline, Cmd}}
use Rattle.tn_pty.specs.Typing.{command_role}
use Rattle.tn_server.specs.{Events.{got, took, History, begun, next, limit}, Terms.{settings, mode}}

-- the role of a byte: with EDIT the line was edited before, and only its closing byte is special
abbrev pub role_of_byte : Settings → Bool → ℕ → Role
role_of_byte s edit byte = if edit then literal_role s.chars byte else role_of_key s byte

-- the role of an item; the commands of RFC 854 and RFC 1184 act whatever the mode is
abbrev pub role_at : Settings → Bool → Item → Role
role_at s edit (Byte byte) = role_of_byte s edit byte
role_at s edit Newline = role_of_byte s edit 10
role_at s edit (Cmd command) = command_role command
role_at s edit _ = role.Ignored

-- the role of an item that comes next
abbrev pub role_of_item : History → Item → Role
role_of_item h item = role_at (settings h) (edits (mode h)) item

-- the roles of all keys that came, in order
abbrev pub roles : History → List Role
roles (begun opening canon) = []
roles (next h (got item)) = roles h ++ roles_from (role_of_item h item)
roles (next h _) = roles h

-- the entries that all keys of a history give
abbrev pub entries : History → List Entry
entries h = entries_of (limit h) (roles h)

-- the half-typed line that the keys of a history leave
abbrev pub half : History → List ℕ
half h = half_of (limit h) (roles h)

-- nothing of the half-typed line is ahead at a server
abbrev pub line : History → HalfLine
line h = record { held = half h; ahead = 0; limit = limit h }

-- the number of entries that were taken
abbrev pub taken_count : History → ℕ
taken_count (begun opening canon) = 0
taken_count (next h took) =
    if nat_lt (taken_count h) (length (entries h)) then taken_count h + 1 else taken_count h
taken_count (next h _) = taken_count h

-- the entries that no job has taken yet
abbrev pub waiting : History → List Entry
waiting h = drop (taken_count h) (entries h)
