-- How a line goes to a service that is spoken to in Telnet.
use Rattle.std.specs.Prelude.{ℕ, ◌==◌, List, flat_map, if◌then◌else◌}
use Rattle.tn_nvt.specs.{Spelling.spelling, declared.items.Item.{Item, TheVariants.{Byte, Newline}}}

-- a line feed is the end of a line, and each other byte is data
abbrev pub item_of : ℕ → Item
item_of byte = if byte == 10 then Newline else Byte byte

-- bytes one after another, each in its spelling
abbrev pub spelled : List ℕ → List ℕ
spelled bytes = flat_map (λ byte. spelling (item_of byte)) bytes
