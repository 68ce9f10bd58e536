-- The bytes that are spelled to a caller's buffer.
use Rattle.std.specs.Prelude.{◌≡◌, ◌≢◌, ◌↔◌, ◌⊎◌, ◌<◌, ◌≤◌, ℕ, List, length}
use Rattle.tn_codes.specs.{Codes.{command_code, verb_code}, declared.codes.{Command.Command, Verb.Verb}}
use Rattle.tn_nvt.specs.{Spelling.{spelling, max_parameters}, declared.items.Item.Item}
use Rattle.tn_nvt.specs.declared.items.Item.TheVariants.{Cmd, Neg, Sub}
use Rattle.tn_c.specs.{parts.Bytes.Gives, declared.parts.codes.Code.Code}
use Rattle.tn_c.specs.declared.parts.codes.Code.TheVariants as code

-- A buffer and a count, before and after a call.
pub record Room : Type 0 where
  pub old_buf : List ℕ
  pub new_buf : List ℕ
  pub old_count : ℕ
  pub new_count : ℕ

-- Neither was written.
pub record IsLeft (room : Room) : Type 0 where
  pub buf : room.new_buf ≡ room.old_buf
  pub count : room.new_count ≡ room.old_count

-- The item's spelling was given, or memory was refused.
pub record Spells (item : Item) (room : Room) (answer : Code) : Type 0 where
  pub codes : (answer ≡ code.Done) ⊎ (answer ≡ code.Memory)
  pub ok : answer ≡ code.Done → Gives (spelling item) room.old_buf room.new_buf room.new_count
  pub err : answer ≡ code.Memory → IsLeft room

-- The spelling of the command with this byte, if there is one.
pub record SpellsCommand (byte : ℕ) (room : Room) (answer : Code) : Type 0 where
  pub known : (command : Command) → command_code command ≡ byte → Spells (Cmd command) room answer
  pub unknown : (answer ≡ code.NoCommand) ↔ ((command : Command) → command_code command ≢ byte)
  pub unspelled : answer ≡ code.NoCommand → IsLeft room

-- The spelling of the option message whose verb has this byte, if there is one.
pub record SpellsWord (byte option : ℕ) (room : Room) (answer : Code) : Type 0 where
  pub known : (verb : Verb) → verb_code verb ≡ byte → Spells (Neg verb option) room answer
  pub unknown : (answer ≡ code.NoCommand) ↔ ((verb : Verb) → verb_code verb ≢ byte)
  pub unspelled : answer ≡ code.NoCommand → IsLeft room

-- The spelling of a subnegotiation, if it has not too many parameters.
pub record SpellsSub (option : ℕ) (parameters : List ℕ) (room : Room) (answer : Code) : Type 0 where
  pub short : length parameters ≤ max_parameters → Spells (Sub option parameters) room answer
  pub long : (answer ≡ code.TooLong) ↔ (max_parameters < length parameters)
  pub unspelled : answer ≡ code.TooLong → IsLeft room
