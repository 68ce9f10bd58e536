-- The half-typed line that is edited at a client end, and its two parts.
use Rattle.std.specs.Prelude.{ℕ, min, Bool, true, false, not, ◌&&◌, Option, Some, None, List, [], ◌∷◌, ◌++◌}
use Rattle.std.specs.Prelude.{length, drop, if◌then◌else◌}
use Rattle.tn_codes.specs.{Masks.has_character, declared.masks.Mask.Mask}
use Rattle.tn_discipline.specs.{Admitted.{is_dropped, count_of}, Characters.Characters, Entries.half_of}
use Rattle.tn_discipline.specs.{Keys.{standard_flags, role_of_key, roles_from}, HalfLine.HalfLine}
use Rattle.tn_discipline.specs.declared.{keys.Role.Role, termios.Settings.Settings}
use Rattle.tn_discipline.specs.declared.keys.Role.TheVariants as role
use Rattle.tn_linemode.specs.Modes.{edits, traps}
use Rattle.tn_nvt.specs.Spelling.{lf}
use Rattle.tn_client.specs.{Events.{typed, got, History, begun, next, entered}, Terms.{mode, forward, chars}}

-- the settings that a client has its keys by: a carriage return ends the line as a line feed does, the
-- characters are those of its table, and ISIG is TRAPSIG
abbrev pub settings_by : Bool → Characters → Settings
settings_by trapsig c = record { flags = record standard_flags { isig = trapsig }; chars = c }

-- the settings that give a key its role under this mask
abbrev pub key_settings : ℕ → Characters → Settings
key_settings mask c = settings_by (traps mask) c

-- the role of a key under this mask
abbrev pub role_of_typed : ℕ → Characters → ℕ → Role
role_of_typed mask c key = role_of_key (key_settings mask c) key

-- the role of a key at this client
abbrev pub role_at : History → ℕ → Role
role_at h key = role_of_typed (mode h) (chars h) key

-- the role of a key if the server's ISIG is this; it matters only for a client that does not edit
abbrev pub role_under : Bool → History → ℕ → Role
role_under isig h key =
    if edits (mode h) then role_at h key else role_of_key (settings_by isig (chars h)) key

-- when EDIT begins, TRAPSIG shows the server's ISIG
abbrev pub isig_told : Bool → Bool → ℕ → Bool
isig_told isig edit mask = if not edit && edits mask then traps mask else isig

-- The roles of the typed keys, by which a half-typed line goes on whichever end edits it: with EDIT each by
-- the mode and the characters that it met, and without it under this ISIG.
abbrev pub roles_under : Bool → History → List Role
roles_under isig (begun width height limit) = []
roles_under isig (next h (typed key)) = roles_under isig h ++ roles_from (role_under isig h key)
roles_under isig (next h entered) = roles_under isig h ++ roles_from (role_under isig h lf)
roles_under isig (next h (got item)) =
    roles_under (isig_told isig (edits (mode h)) (mode (next h (got item)))) h
roles_under isig (next h _) = roles_under isig h

-- those of a half-typed line that the client edits
abbrev pub edited_roles : History → List Role
edited_roles h = if edits (mode h) then roles_under (traps (mode h)) h else []

-- the most bytes of a line, with its closing byte
abbrev pub line_limit : History → ℕ
line_limit (begun width height limit) = limit
line_limit (next h e) = line_limit h

-- the half-typed line, whichever end has its bytes
abbrev pub half_line : History → List ℕ
half_line h = half_of (line_limit h) (edited_roles h)

-- RFC 1184, section 2.3: the byte is in the forward mask
abbrev pub is_forward : Option Mask → ℕ → Bool
is_forward None byte = false
is_forward (Some mask) byte = has_character mask byte

-- a key of this role sends all held bytes if the line has this limit and count: it is an ordinary byte of the
-- forward mask, and admitted
abbrev pub sends_ahead : Option Mask → ℕ → ℕ → Role → Bool
sends_ahead forward limit count (role.Ordinary byte) =
    not (is_dropped limit count (role.Ordinary byte)) && is_forward forward byte
sends_ahead forward limit count _ = false

-- the key sends all held bytes
abbrev pub is_sent_ahead : History → ℕ → Bool
is_sent_ahead h key =
    sends_ahead (forward h) (line_limit h) (count_of (line_limit h) (edited_roles h)) (role_at h key)

-- these lengths and one more: they are reset when all was sent
abbrev pub lengths_with : Bool → ℕ → List ℕ → List ℕ
lengths_with true length lengths = length ∷ []
lengths_with false length lengths = length ∷ lengths

-- the lengths that are kept while EDIT stays; when EDIT begins only the present one, since all that was typed
-- before was sent; without EDIT none
abbrev pub lengths_kept : Bool → Bool → ℕ → List ℕ → List ℕ
lengths_kept true true length lengths = lengths
lengths_kept false true length lengths = length ∷ []
lengths_kept edit false length lengths = []

-- The lengths that the half-typed line has had since EDIT began, or since a key sent all of it, whichever is
-- later; the latest first.
abbrev pub lengths_since_sent : History → List ℕ
lengths_since_sent (begun width height limit) = []
lengths_since_sent (next h (typed key)) =
    if edits (mode h)
    then lengths_with (is_sent_ahead h key) (length (half_line (next h (typed key)))) (lengths_since_sent h)
    else []
lengths_since_sent (next h entered) =
    if edits (mode h)
    then lengths_with (is_sent_ahead h lf) (length (half_line (next h entered))) (lengths_since_sent h)
    else []
lengths_since_sent (next h (got item)) =
    lengths_kept (edits (mode h)) (edits (mode (next h (got item))))
    (length (half_line (next h (got item)))) (lengths_since_sent h)
lengths_since_sent (next h _) = lengths_since_sent h

-- the least of these, and 0 of none
abbrev pub least : List ℕ → ℕ
least [] = 0
least (n ∷ []) = n
least (n ∷ m ∷ ns) = min n (least (m ∷ ns))

-- The number of its bytes that were sent: the least length that it has had since all of it was sent.
abbrev pub ahead : History → ℕ
ahead h = least (lengths_since_sent h)

-- the bytes of it that the client holds
abbrev pub held_bytes : History → List ℕ
held_bytes h = drop (ahead h) (half_line h)

-- the length of the half-typed line that the server edits, if its ISIG is this; with EDIT none is counted
abbrev pub count_under : Bool → History → ℕ
count_under isig h = if edits (mode h) then 0 else length (half_of (line_limit h) (roles_under isig h))

-- the line that the client edits, after a history
abbrev pub line : History → HalfLine
line h = record { held = held_bytes h; ahead = ahead h; limit = line_limit h }
