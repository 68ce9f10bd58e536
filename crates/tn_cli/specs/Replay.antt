-- The lines that `tn replay` prints of a client's stream.
use Rattle.std.specs.{Prelude.{◌≡◌, ℕ, Option, Some, None, List, ◌++◌}, List.filter_map}
use Rattle.std.specs.Io.KnownBytes.{Appends}
use Rattle.tn_nvt.specs.declared.items.Item.{Item, TheVariants.{Byte, Newline, Cmd, Neg, Sub}}
use Rattle.tn_nvt.specs.Stream.{Reading}
use Rattle.tn_cli.specs.{Streams.AppendsPrefix, Typing.local_output, declared.replay.Gathered.Gathered}

-- a data byte is a key, and a new line the key of a line feed; all else is skipped
abbrev pub key_of : Item → Option ℕ
key_of (Byte byte) = Some byte
key_of Newline = Some 10
key_of (Cmd command) = None
key_of (Neg verb option) = None
key_of (Sub option params) = None

-- the keys of items
abbrev pub keys_of : List Item → List ℕ
keys_of items = filter_map key_of items

-- the keys of these items were gathered
abbrev pub GathersItems : Gathered → List Item → Gathered → Type 0
GathersItems old items new = new.keys.items ≡ old.keys.items ++ keys_of items

-- some of these keys were gathered, or none
abbrev pub GathersSome : Gathered → List Item → Gathered → Type 0
GathersSome old items new = Unit {0}

-- the keys of the stream's one reading
pub record AreKeysOf (stream found : List ℕ) : Type 0 where
  pub items : List Item
  pub rest : List ℕ
  pub reading : Reading stream items rest
  pub keys : found ≡ keys_of items

-- the output is what is printed of the keys of the stream's one reading
pub record IsReplayOf (stream output : List ℕ) : Type 0 where
  pub items : List Item
  pub rest : List ℕ
  pub reading : Reading stream items rest
  pub printed : output ≡ local_output (keys_of items)

-- the whole output was appended, if the writer's content is known
abbrev pub Replays : List ℕ → Option (List ℕ) → Option (List ℕ) → Type 0
Replays stream old new = (output : List ℕ) × IsReplayOf stream output × Appends old new output

-- a prefix of the output was appended
abbrev pub ReplaysPrefix : List ℕ → Option (List ℕ) → Option (List ℕ) → Type 0
ReplaysPrefix stream old new = (output : List ℕ) × IsReplayOf stream output × AppendsPrefix old new output
