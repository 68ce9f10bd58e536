-- The items in flight after a mark, and from the opening on: none turns LINEMODE off or changes a special
-- character, and none turns it on unless the special characters are the standard ones.
use Rattle.std.specs.Prelude.{◌≡◌, ◌⊎◌, ℕ, ◌==◌, Bool, true, IsTrue, false, IsFalse, Option, Some}
use Rattle.tn_codes.specs.{declared.codes.Verb.{Verb, TheVariants.{Will, DoIt}}, PayloadOf.payload_of}
use Rattle.tn_codes.specs.declared.payloads.Payload.{Payload}
use Rattle.tn_codes.specs.OptionCodes as option_code
use Rattle.tn_codes.specs.declared.payloads.Payload.TheVariants as payload
use Rattle.tn_discipline.specs.{Characters.standard_characters, declared.termios.Settings.Settings}
use Rattle.tn_linemode.specs.{Exchange.announcement, Modes.{edits, is_acknowledged, traps}}
use Rattle.tn_server.specs.Terms.{allows_local}
use Rattle.tn_nvt.specs.declared.items.Item.{Item, TheVariants.{Neg, Sub}}

-- RFC 1184, section 2.2: the two bits of a mask that both ends keep
pub record Mode : Type 0 where
  pub edit : Bool
  pub trapsig : Bool

-- a mask as a mode
abbrev pub bits : ℕ → Mode
bits mask = record { edit = edits mask; trapsig = traps mask }

-- the mode of Remote
abbrev pub remote_mode : Mode
remote_mode = record { edit = false; trapsig = false }

-- the mode of Local under these settings
abbrev pub local_mode : Settings → Mode
local_mode s = record { edit = true; trapsig = s.flags.isig }

-- a mode that a server asks for
abbrev pub IsAskable : Settings → Mode → Type 0
IsAskable s m = (m ≡ remote_mode) ⊎ (IsTrue (allows_local s.flags) × (m ≡ local_mode s))

-- to the server: no MODE but one that acknowledges, and no list of characters
abbrev pub SaysCalmly : Option Payload → Type 0
SaysCalmly (Some (payload.Mode mask)) = IsTrue (is_acknowledged mask)
SaysCalmly (Some (payload.Slc triples)) = ⊥
SaysCalmly _ = Unit {0}

-- the one message that turns LINEMODE on at an end, if the client's first table is the server's
abbrev pub TurnsOn : Settings → Verb → Verb → ℕ → Type 0
TurnsOn s turning verb option = (verb ≡ turning) × (option ≡ 34) × (s.chars ≡ standard_characters)

-- the item, on its way to the server, is calm
abbrev pub IsCalmToServer : Settings → Item → Type 0
IsCalmToServer s (Neg verb option) = IsFalse (option == option_code.linemode) ⊎ TurnsOn s Will verb option
IsCalmToServer s (Sub option params) = SaysCalmly (payload_of option params)
IsCalmToServer s _ = Unit {0}

-- to the client: no MODE but one that a server with these settings asks for, and no list of characters but
-- the whole table that the client has already
abbrev pub AsksCalmly : Settings → Option Payload → Type 0
AsksCalmly s (Some (payload.Mode mask)) = IsFalse (is_acknowledged mask) × IsAskable s (bits mask)
AsksCalmly s (Some (payload.Slc triples)) =
    (s.chars ≡ standard_characters) × (triples ≡ announcement standard_characters)
AsksCalmly s _ = Unit {0}

-- the item, on its way to the client, is calm
abbrev pub IsCalmToClient : Settings → Item → Type 0
IsCalmToClient s (Neg verb option) = IsFalse (option == option_code.linemode) ⊎ TurnsOn s DoIt verb option
IsCalmToClient s (Sub option params) = AsksCalmly s (payload_of option params)
IsCalmToClient s _ = Unit {0}
