-- The lines of a world's script, and what each asks for.
use Rattle.std.specs.Prelude.{ℕ, ◌==◌, ◌&&◌, ◌||◌, nat_le, Bool, true, false, if◌then◌else◌, Option, Some}
use Rattle.std.specs.Prelude.{None, option_and_then, List, [], ◌∷◌, length, codes, bytes_eq}
use Rattle.std.specs.{List.{slice_split, list_all}, Option.option_or, Result.result_ok, Str.all_ascii_digits}
use Rattle.std.specs.Str.Parse.{digits_value}
use Rattle.hex.specs.Hex.{decode_of}
use Rattle.tn_codes.specs.{Masks.filled_octets, declared.codes.Func.Func}
use Rattle.tn_codes.specs.declared.codes.Func.TheVariants as func
use Rattle.tn_client.specs.declared.commands.UserCommand.TheVariants as user
use Rattle.tn_server.specs.declared.wishes.Editing.TheVariants.{Remote, Local}
use Rattle.tn_world.specs.declared.events.Event.TheVariants as event
use Rattle.tn_cli.specs.declared.scripts.Command.{Command}
use Rattle.tn_cli.specs.declared.scripts.Command.TheVariants.{Keys, Happen, Settle, Take, Mark, Flight, Shown}

-- the lines of a script, which line feeds separate; the empty one after the last line feed is skipped like
-- any other
abbrev pub lines_of : List ℕ → List (List ℕ)
lines_of script = slice_split (λ byte. byte == 10) script

-- the words of a line, which single spaces separate
abbrev pub words_of : List ℕ → List (List ℕ)
words_of line = slice_split (λ byte. byte == 32) line

-- the number that decimal digits spell, if it is within a limit
abbrev pub number_within : ℕ → List ℕ → Option ℕ
number_within most [] = None
number_within most (c ∷ cs) =
    if all_ascii_digits (c ∷ cs) && nat_le (digits_value 10 (c ∷ cs)) most
    then Some (digits_value 10 (c ∷ cs))
    else None

-- a hexadecimal digit, its letters in lower case
abbrev pub is_lower_digit : ℕ → Bool
is_lower_digit c = (nat_le 48 c && nat_le c 57) || (nat_le 97 c && nat_le c 102)

-- the bytes that pairs of such digits spell, at least one of them
abbrev pub hex_bytes : List ℕ → Option (List ℕ)
hex_bytes [] = None
hex_bytes (c ∷ cs) = if list_all is_lower_digit (c ∷ cs) then result_ok (decode_of (c ∷ cs)) else None

-- a special character from one byte: 255 stands for none
abbrev pub character : List ℕ → Option (Option ℕ)
character (byte ∷ []) = Some (if byte == 255 then None else Some byte)
character bytes = None

-- the function of this name, if there is one
abbrev pub func_named : List ℕ → Option Func
func_named name =
    if bytes_eq name (codes "ip") then Some func.Ip
    else if bytes_eq name (codes "abort") then Some func.Abort
    else if bytes_eq name (codes "eof") then Some func.Eof
    else if bytes_eq name (codes "susp") then Some func.Susp
    else if bytes_eq name (codes "ec") then Some func.Ec
    else if bytes_eq name (codes "el") then Some func.El
    else if bytes_eq name (codes "forw1") then Some func.Forw1
    else if bytes_eq name (codes "forw2") then Some func.Forw2
    else None

-- a line of one word
abbrev pub alone : List ℕ → Option Command
alone verb =
    if bytes_eq verb (codes "settle") then Some Settle
    else if bytes_eq verb (codes "take") then Some Take
    else if bytes_eq verb (codes "mark") then Some Mark
    else if bytes_eq verb (codes "flight") then Some Flight
    else if bytes_eq verb (codes "shown") then Some Shown
    else if bytes_eq verb (codes "server-stops") then Some (Happen event.ServerStops)
    else if bytes_eq verb (codes "client-stops") then Some (Happen event.ClientStops)
    else None

-- a request that this side edit lines
abbrev pub wish_command : List ℕ → Option Command
wish_command name =
    if bytes_eq name (codes "local") then Some (Happen (event.Wish Local))
    else if bytes_eq name (codes "remote") then Some (Happen (event.Wish Remote))
    else None

-- a setting of ECHO
abbrev pub echo_command : List ℕ → Option Command
echo_command name =
    if bytes_eq name (codes "on") then Some (Happen (event.Echo true))
    else if bytes_eq name (codes "off") then Some (Happen (event.Echo false))
    else None

-- a forward mask that is taken back
abbrev pub mask_command : List ℕ → Option Command
mask_command name =
    if bytes_eq name (codes "off") then Some (Happen (event.Mask None)) else None

-- a command that the client's user sends
abbrev pub send_command : List ℕ → Option Command
send_command name =
    if bytes_eq name (codes "brk") then Some (Happen (event.Send user.Brk))
    else if bytes_eq name (codes "ip") then Some (Happen (event.Send user.Ip))
    else if bytes_eq name (codes "ayt") then Some (Happen (event.Send user.Ayt))
    else if bytes_eq name (codes "nop") then Some (Happen (event.Send user.Nop))
    else None

-- a line of two words, the second of them a name
abbrev pub with_name : List ℕ → List ℕ → Option Command
with_name verb name =
    if bytes_eq verb (codes "wish") then wish_command name
    else if bytes_eq verb (codes "echo") then echo_command name
    else if bytes_eq verb (codes "mask") then mask_command name
    else if bytes_eq verb (codes "send") then send_command name
    else None

-- a line of two words, the second of them a number
abbrev pub with_number : List ℕ → ℕ → Option Command
with_number verb number =
    if bytes_eq verb (codes "to-server") then Some (Happen (event.ToServer number))
    else if bytes_eq verb (codes "to-client") then Some (Happen (event.ToClient number))
    else if bytes_eq verb (codes "pull") then Some (Happen (event.Pull number))
    else None

-- a forward mask of at most 32 octets
abbrev pub forward_command : List ℕ → Option Command
forward_command octets =
    if nat_le (length octets) 32
    then Some (Happen (event.Mask (Some (record { 0 = filled_octets octets }))))
    else None

-- a line of two words, the second of them bytes
abbrev pub with_bytes : List ℕ → List ℕ → Option Command
with_bytes verb bytes =
    if bytes_eq verb (codes "key") then Some (Keys bytes)
    else if bytes_eq verb (codes "write") then Some (Happen (event.Write bytes))
    else if bytes_eq verb (codes "mask") then forward_command bytes
    else None

-- a size of the window
abbrev pub with_size : List ℕ → ℕ → ℕ → Option Command
with_size verb width height =
    if bytes_eq verb (codes "resize") then Some (Happen (event.Resize width height)) else None

-- a special character that is set or proposed
abbrev pub with_character : List ℕ → Func → Option ℕ → Option Command
with_character verb func value =
    if bytes_eq verb (codes "set") then Some (Happen (event.SetChar func value))
    else if bytes_eq verb (codes "propose") then Some (Happen (event.Propose func value))
    else None

-- a line of two words
abbrev pub with_word : List ℕ → List ℕ → Option Command
with_word verb word =
    let counted = option_and_then (with_number verb) (number_within 1000000 word) in
    let spelled = option_and_then (with_bytes verb) (hex_bytes word) in
    option_or (with_name verb word) (option_or counted spelled)

-- a line of three words, the last two of them numbers
abbrev pub resize_command : List ℕ → List ℕ → List ℕ → Option Command
resize_command verb first second =
    option_and_then
    (λ width. option_and_then (with_size verb width) (number_within 65535 second))
    (number_within 65535 first)

-- a line of three words, the last of them a byte
abbrev pub character_command : List ℕ → List ℕ → List ℕ → Option Command
character_command verb first second =
    option_and_then
    (λ func. option_and_then (with_character verb func) (option_and_then character (hex_bytes second)))
    (func_named first)

-- a line of three words
abbrev pub with_words : List ℕ → List ℕ → List ℕ → Option Command
with_words verb first second =
    option_or (resize_command verb first second) (character_command verb first second)

-- the command that these words are, if they are one
abbrev pub command_of_words : List (List ℕ) → Option Command
command_of_words (verb ∷ []) = alone verb
command_of_words (verb ∷ word ∷ []) = with_word verb word
command_of_words (verb ∷ first ∷ second ∷ []) = with_words verb first second
command_of_words words = None

-- the command that a line is, if it is one
abbrev pub command_of : List ℕ → Option Command
command_of line = command_of_words (words_of line)
