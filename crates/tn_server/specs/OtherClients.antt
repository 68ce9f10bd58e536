-- How a server takes clients of other makers: one that edits nothing, as PuTTY, busybox and libtelnet; a line
-- that was edited before and is sent whole; and one that negotiates nothing, as netcat.
use Rattle.std.specs.Prelude.{◌≡◌, ◌≤◌, ℕ, IsTrue, false, IsFalse, Option, Some, List, [], ◌∷◌, ◌++◌, map}
use Rattle.std.specs.{Prelude.{All, length}, List.flat_map}
use Rattle.tn_codes.specs.{PayloadOf.payload_of, declared.payloads.Payload.{Payload, TheVariants.{Mode, Slc}}}
use Rattle.tn_discipline.specs.{Canon.Canon, Characters.Characters, Limits.max_counted}
use Rattle.tn_discipline.specs.Keys.{literal_role, role_of_key, roles_from}
use Rattle.tn_discipline.specs.declared.{keys.Role.{Role, TheVariants.Ordinary}, termios.Settings.Settings}
use Rattle.tn_linemode.specs.{Exchange.server_after, Modes.{edits, is_acknowledged}}
use Rattle.tn_nvt.specs.declared.items.Item.{Item, TheVariants.{Byte, Newline, Cmd, Sub}}
use Rattle.tn_server.specs.Events.{Event, got, char_set, History, begun, next, opening_settings, limit}
use Rattle.tn_server.specs.Lines.{role_at}

-- A CLIENT THAT EDITS NOTHING

-- RFC 1184, section 2.2: no mask with EDIT is acknowledged
abbrev pub AcknowledgesNoEdit : Option Payload → Type 0
AcknowledgesNoEdit (Some (Mode mask)) = IsTrue (is_acknowledged mask) → IsFalse (edits mask)
AcknowledgesNoEdit _ = Unit {0}

-- RFC 1184, section 2.4: a list of local characters changes none of these
abbrev pub KeepsCharacters : Characters → Option Payload → Type 0
KeepsCharacters chars (Some (Slc triples)) = server_after chars triples ≡ chars
KeepsCharacters chars _ = Unit {0}

-- the event acknowledges no EDIT, and changes no special character
abbrev pub IsRemoteEvent : Characters → Event → Type 0
IsRemoteEvent chars (got (Sub option params)) =
    AcknowledgesNoEdit (payload_of option params) × KeepsCharacters chars (payload_of option params)
IsRemoteEvent chars (char_set func value) = ⊥
IsRemoteEvent chars _ = Unit {0}

-- No item acknowledges EDIT, and neither side changes a special character.
abbrev pub StaysRemote : History → Type 0
StaysRemote (begun opening canon) = Unit {0}
StaysRemote (next h e) = StaysRemote h × IsRemoteEvent (opening_settings h).chars e

-- the terminal that the end was started over
abbrev pub opening_canon : History → Canon
opening_canon h = record { settings = opening_settings h; limit = limit h }

-- the roles of these items there: a data byte is a key, a new line the key 10, and a command has its own role
abbrev pub roles_of_items : Settings → List Item → List Role
roles_of_items s items = flat_map (λ item. roles_from (role_at s false item)) items

-- the data bytes, as keys
abbrev pub keys_of : List Item → List ℕ
keys_of [] = []
keys_of (Byte byte ∷ items) = byte ∷ keys_of items
keys_of (Newline ∷ items) = 10 ∷ keys_of items
keys_of (_ ∷ items) = keys_of items

-- the item is no command
abbrev pub IsNoCommand : Item → Type 0
IsNoCommand (Cmd command) = ⊥
IsNoCommand _ = Unit {0}

-- A LINE THAT IS SENT WHOLE: its bytes, and a new line, which is CR LF on the wire (RFC 854)
abbrev pub line_items : List ℕ → List Item
line_items bytes = map Byte bytes ++ Newline ∷ []

-- each of these bytes is an ordinary one, by this role of a byte
abbrev pub AreOrdinaryBy : (ℕ → Role) → List ℕ → Type 0
AreOrdinaryBy role [] = Unit {0}
AreOrdinaryBy role (byte ∷ bytes) = (role byte ≡ Ordinary byte) × AreOrdinaryBy role bytes

-- none of these bytes is a closing character
abbrev pub AreOrdinary : Characters → List ℕ → Type 0
AreOrdinary chars bytes = AreOrdinaryBy (literal_role chars) bytes

-- A CLIENT THAT NEGOTIATES NOTHING: all that comes is text
abbrev pub IsText : Item → Type 0
IsText (Byte byte) = Unit {0}
IsText Newline = Unit {0}
IsText _ = ⊥

-- these bytes are ordinary as keys of this terminal, and a line has room for them
abbrev pub IsLine : Canon → List ℕ → Type 0
IsLine canon bytes =
    AreOrdinaryBy (role_of_key canon.settings) bytes × (length bytes ≤ max_counted canon.limit)

-- a text of lines
abbrev pub text_items : List (List ℕ) → List Item
text_items lines = flat_map line_items lines
