-- The lines that are printed of items: data that follow one another are joined, and then cut in 64s.
use Rattle.std.specs.Prelude.{◌≡◌, ℕ, zero, suc, List, [], ◌∷◌, ◌++◌, map, take, drop, length, codes}
use Rattle.std.specs.List.{flat_map}
use Rattle.tn_nvt.specs.declared.items.Item.{Item, TheVariants.{Byte, Newline, Cmd, Neg, Sub}}
use Rattle.tn_net.specs.printing.Texts.{data_text, item_text}

-- the most data of a line, in bytes
abbrev pub max_data : ℕ
max_data = 64

-- a part that is in lines of its own: data with none before or after them, or one other item
pub data Part : Type 0 where
  run : List ℕ → Part
  single : Item → Part

-- a byte of data before other parts, which joins data right after it
abbrev pub byte_before : ℕ → List Part → List Part
byte_before b [] = run (b ∷ []) ∷ []
byte_before b (run bytes ∷ parts) = run (b ∷ bytes) ∷ parts
byte_before b (single item ∷ parts) = run (b ∷ []) ∷ single item ∷ parts

-- an item that is no data
abbrev pub IsSingle : Item → Type 0
IsSingle (Byte b) = ⊥
IsSingle Newline = Unit {0}
IsSingle (Cmd command) = Unit {0}
IsSingle (Neg verb option) = Unit {0}
IsSingle (Sub option params) = Unit {0}

-- an item before other parts
abbrev pub item_before : Item → List Part → List Part
item_before (Byte b) parts = byte_before b parts
item_before Newline parts = single Newline ∷ parts
item_before (Cmd command) parts = single (Cmd command) ∷ parts
item_before (Neg verb option) parts = single (Neg verb option) ∷ parts
item_before (Sub option params) parts = single (Sub option params) ∷ parts

-- the parts of items
unfoldable pub parts_of : List Item → List Part
parts_of [] = []
parts_of (item ∷ items) = item_before item (parts_of items)

-- the first pieces of bytes, at most this number, of this size each; the last piece has the rest
unfoldable pub first_pieces : ℕ → ℕ → List ℕ → List (List ℕ)
first_pieces size zero bytes = []
first_pieces size (suc count) [] = []
first_pieces size (suc count) (b ∷ bs) =
    take size (b ∷ bs) ∷ first_pieces size count (drop size (b ∷ bs))

-- all pieces of bytes
abbrev pub pieces_of : ℕ → List ℕ → List (List ℕ)
pieces_of size bytes = first_pieces size (length bytes) bytes

-- the lines of a part
abbrev pub part_lines : Part → List (List ℕ)
part_lines (run bytes) = map data_text (pieces_of max_data bytes)
part_lines (single item) = item_text item ∷ []

-- the lines of items
unfoldable pub lines_of : List Item → List (List ℕ)
lines_of items = flat_map part_lines (parts_of items)

-- a line as it is printed, after a prefix
abbrev pub whole_line : List ℕ → List ℕ → List ℕ
whole_line prefix line = prefix ++ line ++ codes "\n"

-- all that is printed of items
unfoldable pub decoded : List ℕ → List Item → List ℕ
decoded prefix items = flat_map (whole_line prefix) (lines_of items)

-- any item after these begins a line of its own
abbrev pub EndsLine : List Item → Type 0
EndsLine items = (more : List Item) → lines_of (items ++ more) ≡ lines_of items ++ lines_of more
