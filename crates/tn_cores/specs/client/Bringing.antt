-- The bytes and requests that the messages brought, and their effect at the client end.
use Rattle.std.specs.Prelude.{◌≡◌, ℕ, IsFalse, Option, Some, None, List, [], ◌∷◌, ◌++◌, flat_map, map}
use Rattle.tn_client.specs.{Events.{History, begun, next, items}, declared.commands.UserCommand.UserCommand}
use Rattle.tn_client.specs.Events as client
use Rattle.tn_cores.specs.{client.{Commands.command_of, Run.Run}, declared.streams.control.Control.Control}
use Rattle.tn_cores.specs.{Pieces.bytes_in, declared.messages.Message.{Message, TheVariants.{Piece, Asked}}}
use Rattle.tn_cores.specs.declared.client.messages.{Origin.{Origin, TheVariants.{Keys, Net}}, Told.Told}
use Rattle.tn_linemode.specs.Prefixes.{IsRead}

-- WHAT A USER TYPES: keys, and commands and new lines between them
pub data Input : Type 0 where
  key_typed : ℕ → Input
  command_sent : UserCommand → Input
  line_entered : Input

-- the key of an input, if it is one
abbrev pub key_in : Input → List ℕ
key_in (key_typed key) = key ∷ []
key_in _ = []

-- the request of an input, if it is one
abbrev pub asked_in : Input → List Input
asked_in (key_typed key) = []
asked_in input = input ∷ []

-- only the keys, and only what is asked for between them
abbrev pub keys_in : List Input → List ℕ
keys_in given = flat_map key_in given

-- the requests among these inputs
abbrev pub all_asked : List Input → List Input
all_asked given = flat_map asked_in given

-- the inputs that were typed at a client end
abbrev pub inputs : History → List Input
inputs (begun width height limit) = []
inputs (next h (client.typed key)) = inputs h ++ key_typed key ∷ []
inputs (next h (client.sent command)) = inputs h ++ command_sent command ∷ []
inputs (next h client.entered) = inputs h ++ line_entered ∷ []
inputs (next h _) = inputs h

-- a command as an input, or a new line if there is none
abbrev pub input_by : Option UserCommand → Input
input_by (Some command) = command_sent command
input_by None = line_entered

-- a request between keys as an input
abbrev pub input_of : Control → Input
input_of control = input_by (command_of control)

-- the inputs that a message brings
abbrev pub inputs_in : Message → List Input
inputs_in (Piece piece) = map key_typed piece
inputs_in (Asked control) = input_of control ∷ []
inputs_in _ = []

-- the inputs of a message, if it comes from the keys
abbrev pub inputs_from : Origin → Message → List Input
inputs_from Keys m = inputs_in m
inputs_from Net m = []

-- the inputs that all messages bring
abbrev pub inputs_brought : List Told → List Input
inputs_brought all_told = flat_map (λ told. inputs_from told.from told.message) all_told

-- the bytes that a message from one side brings from the other or the same
abbrev pub brought_from : Origin → Origin → Message → List ℕ
brought_from Keys Keys m = bytes_in m
brought_from Net Net m = bytes_in m
brought_from Keys Net m = []
brought_from Net Keys m = []

-- the bytes that all messages bring from one side
abbrev pub brought : Origin → List Told → List ℕ
brought side all_told = flat_map (λ told. brought_from side told.from told.message) all_told

-- The typed keys and commands are a prefix of those that the messages brought, in their order, and the
-- history's items are those of a prefix of the bytes from the network; both are all of it as long as the
-- messages have their effect.
pub record TakesInOrder (all_told : List Told) (new : Run) : Type 0 where
  pub untyped : List Input
  pub typed : inputs_brought all_told ≡ inputs new.history ++ untyped
  pub unread : List ℕ
  pub fed : brought Net all_told ≡ new.stream ++ unread
  pub read : IsRead new.stream (items new.history)
  pub all : IsFalse new.progress.over → (untyped ≡ []) × (unread ≡ [])
