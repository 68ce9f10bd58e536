-- The lines of data with something after them, and of an item that is no data.
use Rattle.std.proofs.Common.{◌≡◌, ℕ, ◌≤◌, List, [], ◌∷◌, ◌++◌, map, length, refl, sym, ap, ◌∙◌, arith, append-nil, append_assoc}
use Rattle.std.proofs.lemmas.Grind.{flat_map-append}
use Rattle.std.specs.List.{flat_map}
use Rattle.tn_nvt.specs.declared.items.Item.{Item, TheVariants.{Byte, Newline, Cmd, Neg, Sub}}
use Rattle.tn_net.specs.printing.Texts.{data_text, item_text}
use Rattle.tn_net.specs.printing.Lines.{Part, run, single, byte_before, parts_of, part_lines, lines_of, whole_line, decoded, EndsLine, IsSingle, max_data}
use Rattle.tn_net.proofs.of_printing.Cutting.{pieces_first, pieces_one}

-- data before parts, which join data right after them
abbrev joined : List ℕ → List Part → List Part
joined bytes [] = run bytes ∷ []
joined bytes (run others ∷ parts) = run (bytes ++ others) ∷ parts
joined bytes (single item ∷ parts) = run bytes ∷ single item ∷ parts

joined_one : (b : ℕ) (parts : List Part) → byte_before b parts ≡ joined (b ∷ []) parts
joined_one b [] = refl
joined_one b (run others ∷ parts) = refl
joined_one b (single item ∷ parts) = refl

joined_more : (b c : ℕ) (cs : List ℕ) (parts : List Part) → byte_before b (joined (c ∷ cs) parts) ≡ joined (b ∷ c ∷ cs) parts
joined_more b c cs [] = refl
joined_more b c cs (run others ∷ parts) = refl
joined_more b c cs (single item ∷ parts) = refl

parts_of_data : (b : ℕ) (bs : List ℕ) (more : List Item) → parts_of (map Byte (b ∷ bs) ++ more) ≡ joined (b ∷ bs) (parts_of more)
unfolding parts_of
parts_of_data b [] more = joined_one b (parts_of more)
parts_of_data b (c ∷ cs) more = ap (byte_before b) (parts_of_data c cs more) ∙ joined_more b c cs (parts_of more)

part_of_single : (item : Item) (more : List Item) → IsSingle item → parts_of (item ∷ more) ≡ single item ∷ parts_of more
unfolding parts_of
part_of_single (Byte b) more is = absurd is
part_of_single Newline more is = refl
part_of_single (Cmd command) more is = refl
part_of_single (Neg verb option) more is = refl
part_of_single (Sub option params) more is = refl

pub lines_none : lines_of [] ≡ []
unfolding lines_of parts_of
lines_none = refl

joined_full : (b : ℕ) (bs : List ℕ) (parts : List Part) → length (b ∷ bs) ≡ max_data
    → flat_map part_lines (joined (b ∷ bs) parts) ≡ data_text (b ∷ bs) ∷ flat_map part_lines parts
joined_full b bs [] len = rw (pieces_one max_data b bs (omega (arith, len))) refl
joined_full b bs (run others ∷ parts) len = rw (pieces_first max_data b bs others len) refl
joined_full b bs (single item ∷ parts) len = rw (pieces_one max_data b bs (omega (arith, len))) refl

full_line : (b : ℕ) (bs : List ℕ) (more : List Item) → length (b ∷ bs) ≡ max_data → lines_of (map Byte (b ∷ bs) ++ more) ≡ data_text (b ∷ bs) ∷ lines_of more
unfolding lines_of
full_line b bs more len = ap (flat_map part_lines) (parts_of_data b bs more) ∙ joined_full b bs (parts_of more) len

lines_of_data : (b : ℕ) (bs : List ℕ) → lines_of (map Byte (b ∷ bs)) ≡ part_lines (run (b ∷ bs))
unfolding lines_of parts_of
lines_of_data b bs =
    let parts : parts_of (map Byte (b ∷ bs)) ≡ run (b ∷ bs) ∷ [] = ap parts_of (sym (append-nil (map Byte (b ∷ bs)))) ∙ parts_of_data b bs [] in
    ap (flat_map part_lines) parts ∙ append-nil (part_lines (run (b ∷ bs)))

-- one line, if the data fit
pub short_line : (b : ℕ) (bs : List ℕ) → length (b ∷ bs) ≤ max_data → lines_of (map Byte (b ∷ bs)) ≡ data_text (b ∷ bs) ∷ []
short_line b bs len = lines_of_data b bs ∙ ap (map data_text) (pieces_one max_data b bs len)

single_line : (item : Item) (more : List Item) → IsSingle item → lines_of (item ∷ more) ≡ item_text item ∷ lines_of more
unfolding lines_of
single_line item more is = ap (flat_map part_lines) (part_of_single item more is)

-- data, and then an item that is none
data_and_single : (held : List ℕ) (item : Item) (more : List Item) → IsSingle item
    → lines_of (map Byte held ++ item ∷ more) ≡ lines_of (map Byte held) ++ (item_text item ∷ lines_of more)
unfolding lines_of
data_and_single [] item more is = single_line item more is ∙ ap (λ (xs : List (List ℕ)). xs ++ (item_text item ∷ lines_of more)) (sym lines_none)
data_and_single (b ∷ bs) item more is =
    let parts : parts_of (map Byte (b ∷ bs) ++ item ∷ more) ≡ run (b ∷ bs) ∷ single item ∷ parts_of more =
    parts_of_data b bs (item ∷ more) ∙ ap (joined (b ∷ bs)) (part_of_single item more is) in
    ap (flat_map part_lines) parts ∙ ap (λ (xs : List (List ℕ)). xs ++ (item_text item ∷ lines_of more)) (sym (lines_of_data b bs))

pub ends_none : EndsLine []
ends_none more = ap (λ (xs : List (List ℕ)). xs ++ lines_of more) (sym lines_none)

-- after a full line of data a line begins
pub ends_full : (b : ℕ) (bs : List ℕ) → length (b ∷ bs) ≡ max_data → EndsLine (map Byte (b ∷ bs))
ends_full b bs len more =
    full_line b bs more len ∙ ap (λ (xs : List (List ℕ)). xs ++ lines_of more) (sym (short_line b bs (omega (arith, len))))

-- after an item that is no data a line begins
pub ends_single : (held : List ℕ) (item : Item) → IsSingle item → EndsLine (map Byte held ++ item ∷ [])
ends_single held item is more =
    let alone : lines_of (map Byte held ++ item ∷ []) ≡ lines_of (map Byte held) ++ (item_text item ∷ []) =
    data_and_single held item [] is ∙ ap (λ (xs : List (List ℕ)). lines_of (map Byte held) ++ (item_text item ∷ xs)) lines_none in
    ap lines_of (append_assoc (map Byte held) (item ∷ []) more)
    ∙ data_and_single held item more is
    ∙ sym (append_assoc (lines_of (map Byte held)) (item_text item ∷ []) (lines_of more))
    ∙ ap (λ (xs : List (List ℕ)). xs ++ lines_of more) (sym alone)

pub ends_both : (xs ys : List Item) → EndsLine xs → EndsLine ys → EndsLine (xs ++ ys)
ends_both xs ys first then more =
    ap lines_of (append_assoc xs ys more)
    ∙ first (ys ++ more)
    ∙ ap (λ (zs : List (List ℕ)). lines_of xs ++ zs) (then more)
    ∙ sym (append_assoc (lines_of xs) (lines_of ys) (lines_of more))
    ∙ ap (λ (zs : List (List ℕ)). zs ++ lines_of more) (sym (first ys))

pub decoded_none : (prefix : List ℕ) → decoded prefix [] ≡ []
unfolding decoded
decoded_none prefix = ap (flat_map (whole_line prefix)) lines_none

-- the items after the end of a line are printed after it
pub decoded_both : (prefix : List ℕ) (xs ys : List Item) → EndsLine xs → decoded prefix (xs ++ ys) ≡ decoded prefix xs ++ decoded prefix ys
unfolding decoded
decoded_both prefix xs ys ends = ap (flat_map (whole_line prefix)) (ends ys) ∙ flat_map-append (whole_line prefix) (lines_of xs) (lines_of ys)

pub decoded_data : (prefix : List ℕ) (b : ℕ) (bs : List ℕ) → length (b ∷ bs) ≤ max_data
    → decoded prefix (map Byte (b ∷ bs)) ≡ whole_line prefix (data_text (b ∷ bs))
unfolding decoded
decoded_data prefix b bs len = ap (flat_map (whole_line prefix)) (short_line b bs len) ∙ append-nil (whole_line prefix (data_text (b ∷ bs)))

pub decoded_single : (prefix held : List ℕ) (item : Item) → IsSingle item
    → decoded prefix (map Byte held ++ item ∷ []) ≡ decoded prefix (map Byte held) ++ whole_line prefix (item_text item)
unfolding decoded
decoded_single prefix held item is =
    ap (flat_map (whole_line prefix)) (data_and_single held item [] is
    ∙ ap (λ (xs : List (List ℕ)). lines_of (map Byte held) ++ (item_text item ∷ xs)) lines_none)
    ∙ flat_map-append (whole_line prefix) (lines_of (map Byte held)) (item_text item ∷ [])
    ∙ ap (λ (xs : List ℕ). decoded prefix (map Byte held) ++ xs) (append-nil (whole_line prefix (item_text item)))
