-- The content of a printer of lines, and what items add to it, however they come.
use Rattle.std.specs.Prelude.{◌≡◌, ◌≢◌, ℕ, ◌<◌, List, [], ◌++◌, map, length, codes}
use Rattle.tn_nvt.specs.declared.items.Item.{Item, TheVariants.Byte}
use Rattle.tn_net.specs.declared.printing.printer.Prefix.{Prefix, TheVariants.{Empty, Came, Gone}}
use Rattle.tn_net.specs.printing.Lines.{max_data, decoded, EndsLine}

-- the text of a prefix
abbrev pub prefix_text : Prefix → List ℕ
prefix_text Empty = []
prefix_text Came = codes "< "
prefix_text Gone = codes "> "

-- whole lines, and the data of a line that waits for more
pub record Printing : Type 0 where
  pub prefix : Prefix
  pub text : List ℕ
  pub held : List ℕ

-- The data that were held before these items and the items are whole lines, which the text has gained, and
-- then the data that are held after the call, which do not fill a line.
pub record Takes (old : Printing) (items : List Item) (new : Printing) : Type 0 where
  pub prefix : new.prefix ≡ old.prefix
  pub front : List Item
  pub whole : map Byte old.held ++ items ≡ front ++ map Byte new.held
  pub ends : EndsLine front
  pub printed : new.text ≡ old.text ++ decoded (prefix_text old.prefix) front
  pub short : length old.held < max_data → length new.held < max_data

-- these items begin with a whole line
pub record FillsLine (items : List Item) : Type 0 where
  pub front : List Item
  pub back : List Item
  pub whole : items ≡ front ++ back
  pub some : front ≢ []
  pub ends : EndsLine front

-- The printer took the first of the items, or none. A line that the others fill needed memory.
pub record TakesSome (old : Printing) (items : List Item) (new : Printing) : Type 0 where
  pub done : List Item
  pub left : List Item
  pub all : items ≡ done ++ left
  pub taken : Takes old done new
  pub fills : FillsLine (map Byte new.held ++ left)

-- The text has gained the data that were held, as a line if there were some.
pub record EndsData (old new : Printing) : Type 0 where
  pub prefix : new.prefix ≡ old.prefix
  pub printed : new.text ≡ old.text ++ decoded (prefix_text old.prefix) (map Byte old.held)
  pub none : new.held ≡ []
