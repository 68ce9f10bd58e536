-- How a server takes calm items, as far as lines go, and what its client sends about lines.
use Rattle.std.proofs.Common.{◌≡◌, ◌==◌, Bool, ◌&&◌, ◌||◌, Option, Some, List, [], ◌∷◌, ◌++◌, if◌then◌else◌}
use Rattle.std.specs.Prelude.{All}
use Rattle.tn_codes.specs.OptionCodes as option_code
use Rattle.tn_codes.specs.{PayloadOf.payload_of, declared.payloads.Payload.Payload}
use Rattle.tn_codes.specs.declared.payloads.Payload.TheVariants as payload
use Rattle.tn_discipline.specs.{Canon.Canon, Steps.{half_next, gain_next}}
use Rattle.tn_linemode.specs.Modes.{edits}
use Rattle.tn_nvt.specs.{Spelling.Fits, declared.items.Item.{Item, TheVariants.{Neg, Sub}}}
use Rattle.tn_server.specs.Lines.{role_at}
use Rattle.tn_world.specs.relation.{Calm.IsCalmToServer, Pictures.Server}

-- a calm message about LINEMODE turns it on
abbrev pub linemode_after : Bool → Item → Bool
linemode_after on (Neg verb option) = (option == option_code.linemode) || on
linemode_after on _ = on

-- a mode counts if LINEMODE is on
abbrev pub edit_by : Bool → Bool → Option Payload → Bool
edit_by on edit (Some (payload.Mode mask)) = if on then edits mask else edit
edit_by on edit _ = edit

-- LINEMODE begins without EDIT
abbrev pub edit_after : Bool → Bool → Item → Bool
edit_after on edit (Neg verb option) = if option == option_code.linemode then on && edit else edit
edit_after on edit (Sub option params) = edit_by on edit (payload_of option params)
edit_after on edit _ = edit

-- the server after one calm item
abbrev pub read : Canon → Server → Item → Server
read canon v item =
    record {
      linemode = linemode_after v.linemode item;
      edit = edit_after v.linemode v.edit item;
      half = half_next canon.limit v.half (role_at canon.settings v.edit item);
      waiting = v.waiting ++ gain_next canon.limit v.half (role_at canon.settings v.edit item);
    }

-- the server after these items
abbrev pub read_all : Canon → Server → List Item → Server
read_all canon v [] = v
read_all canon v (item ∷ items) = read_all canon (read canon v item) items

-- the items that the client sends fit a stream and are calm
pub record AreSaid (canon : Canon) (said : List Item) : Type 0 where
  pub fit : All Fits said
  pub calm : All (IsCalmToServer canon.settings) said

-- any server reads the items that the client sends as these
pub record SaysItems (canon : Canon) (says said : List Item) : Type 0 where
  pub fit : All Fits said
  pub calm : All (IsCalmToServer canon.settings) said
  pub says_so : (v : Server) → read_all canon v said ≡ read_all canon v says
