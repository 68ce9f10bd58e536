-- An item as C sees it, and a decoder with the items that wait.
use Rattle.std.specs.Prelude.{ℕ, Option, Some, None, List, [], length}
use Rattle.tn_codes.specs.Codes.{command_code, verb_code}
use Rattle.tn_nvt.specs.{Feeding.DecoderState, declared.items.Item.Item}
use Rattle.tn_nvt.specs.declared.items.Item.TheVariants.{Byte, Newline, Cmd, Neg, Sub}
use Rattle.tn_c.specs.declared.parts.decoder.ItemSeen.{ItemSeen}

-- the items that wait to be taken, the first one first, and the item that was taken last
pub record ReadStream : Type 0 where
  pub decoder : DecoderState
  pub waiting : List Item
  pub item : Option Item

-- an item as C sees it, of kind 0 if there is none
abbrev pub item_seen : Option Item → ItemSeen
item_seen None = record { kind = 0; code = 0; option = 0; length = 0 }
item_seen (Some (Byte byte)) = record { kind = 1; code = byte; option = 0; length = 0 }
item_seen (Some Newline) = record { kind = 2; code = 0; option = 0; length = 0 }
item_seen (Some (Cmd command)) = record { kind = 3; code = command_code command; option = 0; length = 0 }
item_seen (Some (Neg verb option)) = record { kind = 4; code = verb_code verb; option = option; length = 0 }
item_seen (Some (Sub option params)) = record { kind = 5; code = 0; option = option; length = length params }

-- the parameters of an item that is a subnegotiation
abbrev pub parameters_of : Option Item → List ℕ
parameters_of (Some (Sub option params)) = params
parameters_of _ = []
