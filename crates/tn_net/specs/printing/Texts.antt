-- The text of an item.
use Rattle.std.specs.Prelude.{ℕ, zero, suc, ◌==◌, ◌&&◌, ◌||◌, nat_le, List, [], ◌∷◌, ◌++◌, codes, decimal}
use Rattle.std.specs.{Prelude.{bit_and, Option, Some, None, if◌then◌else◌}, List.flat_map}
use Rattle.hex.specs.Hex.{encode_lower}
use Rattle.tn_codes.specs.{Masks.has_character, PayloadOf.payload_of, declared.masks.Mask.Mask}
use Rattle.tn_codes.specs.declared.payloads.Payload.{Payload, TheVariants.{Naws, Mode, ForwardOn, ForwardOff}}
use Rattle.tn_codes.specs.declared.payloads.Payload.TheVariants.{ForwardYes, ForwardNo, Slc}
use Rattle.tn_codes.specs.declared.triples.Triple.{Triple}
use Rattle.tn_nvt.specs.declared.items.Item.{Item, TheVariants.{Byte, Newline, Cmd, Neg, Sub}}
use Rattle.tn_net.specs.printing.Names.{verb_name, command_name, option_name, func_name, level_name}

-- a byte of data: printable ASCII as it is, but for a quotation mark and a backslash
abbrev pub byte_text : ℕ → List ℕ
byte_text b =
    if b == 34 || b == 92 then 92 ∷ b ∷ []
    else if nat_le 32 b && nat_le b 126 then b ∷ []
    else codes "\\x" ++ encode_lower (b ∷ [])

-- data between quotation marks
abbrev pub data_text : List ℕ → List ℕ
data_text bytes = codes "data \"" ++ flat_map byte_text bytes ++ codes "\""

-- the name, or the number if there is none
abbrev pub name_or_number : List ℕ → ℕ → List ℕ
name_or_number [] number = decimal number
name_or_number (c ∷ cs) number = c ∷ cs

-- an option as it is printed
abbrev pub option_text : ℕ → List ℕ
option_text option = name_or_number (option_name option) option

-- the word if this bit is set
abbrev pub bit_word : ℕ → ℕ → List ℕ → List ℕ
bit_word bits bit word = if bit_and bits bit == 0 then [] else word

-- the three high bits of a MODE mask, which have no names, if one of them is set
abbrev pub high_bits_word : ℕ → List ℕ
high_bits_word bits = if bits == 0 then [] else codes " " ++ encode_lower (bits ∷ [])

-- the mask of MODE, RFC 1184, section 2.2
abbrev pub mode_words : ℕ → List ℕ
mode_words mask =
    if mask == 0 then codes " 0"
    else bit_word mask 1 (codes " EDIT") ++ bit_word mask 2 (codes " TRAPSIG")
    ++ bit_word mask 4 (codes " MODE_ACK") ++ bit_word mask 8 (codes " SOFT_TAB")
    ++ bit_word mask 16 (codes " LIT_ECHO") ++ high_bits_word (bit_and mask 224)

-- the character if the mask has it
abbrev pub character_word : Mask → ℕ → List ℕ
character_word mask c = if has_character mask c then codes " " ++ encode_lower (c ∷ []) else []

-- the characters of a mask that are below a number, in rising order
unfoldable pub character_words : Mask → ℕ → List ℕ
character_words mask zero = []
character_words mask (suc c) = character_words mask c ++ character_word mask c

-- the modifier of a triple, RFC 1184, section 2.4: its level, and its flags
abbrev pub modifier_text : ℕ → List ℕ
modifier_text flags =
    level_name (bit_and flags 3) ++ bit_word flags 128 (codes "|ACK")
    ++ bit_word flags 64 (codes "|FLUSHIN") ++ bit_word flags 32 (codes "|FLUSHOUT")

-- a triple as it is printed
abbrev pub triple_text : Triple → List ℕ
triple_text triple =
    name_or_number (func_name triple.func) triple.func ++ codes " " ++ modifier_text triple.flags
    ++ codes " " ++ encode_lower (triple.value ∷ [])

-- triples with a comma and a space between them
abbrev pub triples_words : List Triple → List ℕ
triples_words [] = []
triples_words (triple ∷ triples) =
    codes " " ++ triple_text triple ++ flat_map (λ other. codes ", " ++ triple_text other) triples

-- the meaning of a payload, each word after a space
abbrev pub payload_words : Payload → List ℕ
payload_words (Naws width height) = codes " " ++ decimal width ++ codes " " ++ decimal height
payload_words (Mode mask) = codes " MODE" ++ mode_words mask
payload_words (ForwardOn mask) = codes " DO FORWARDMASK" ++ character_words mask 256
payload_words ForwardOff = codes " DONT FORWARDMASK"
payload_words ForwardYes = codes " WILL FORWARDMASK"
payload_words ForwardNo = codes " WONT FORWARDMASK"
payload_words (Slc triples) = codes " SLC" ++ triples_words triples

-- parameters, and their meaning, if they have one
abbrev pub parameters_words : List ℕ → Option Payload → List ℕ
parameters_words params (Some payload) = payload_words payload
parameters_words [] None = []
parameters_words (b ∷ bs) None = codes " " ++ encode_lower (b ∷ bs)

-- an item by itself
abbrev pub item_text : Item → List ℕ
item_text (Byte b) = data_text (b ∷ [])
item_text Newline = codes "newline"
item_text (Cmd command) = codes "IAC " ++ command_name command
item_text (Neg verb option) = codes "IAC " ++ verb_name verb ++ codes " " ++ option_text option
item_text (Sub option params) =
    codes "IAC SB " ++ option_text option ++ parameters_words params (payload_of option params)
