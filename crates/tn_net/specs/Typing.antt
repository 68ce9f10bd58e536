-- The inputs that are typed at a terminal. After an escape character a line is typed to the client itself,
-- which is a command, or asks the session for a control function.
use Rattle.std.specs.Prelude.{◌≡◌, ◌≤◌, ◌⊎◌, ◌==◌, ◌||◌, ℕ, nat_eq, Bool, true, false, Option, None, Some}
use Rattle.std.specs.Prelude.{List, [], ◌∷◌, ◌++◌, codes, is_some, length, take, unwrap_or, if◌then◌else◌}
use Rattle.std.specs.{List.starts_with, Str.bytes_eq}
use Rattle.tn_net.specs.declared.escaping.{EscapeCommand.EscapeCommand, Next.Next, Escaping.Escaping}
use Rattle.tn_net.specs.declared.escaping.EscapeCommand.TheVariants.{Close, Help, Status, Suspend, LogOff}
use Rattle.tn_net.specs.declared.escaping.EscapeCommand.TheVariants.{LogTo, Mode, Return, Unknown}
use Rattle.tn_net.specs.{declared.escaping.Next.TheVariants.{Leaves, Returns}, Mapping.{mapped, none_own}}
use Rattle.tn_net.specs.Prompting.{after_edit, after_escape, edit_of, opened, return_in}
use Rattle.tn_net.specs.declared.escaping.{SessionInput.SessionInput, Keyboard.Keyboard, Typed.Typed}
use Rattle.tn_net.specs.declared.returns.ReturnKey.{ReturnKey, TheVariants.{CrNul, CrLf, Lf}}
use Rattle.tn_net.specs.declared.prompt.{Edit.{Edit, TheVariants.Enter}, Prompt.Prompt}
use Rattle.tn_net.specs.declared.escaping.SessionInput.TheVariants as input
use Rattle.tn_net.specs.declared.escaping.Typed.TheVariants as typed
use Rattle.tn_cores.specs.declared.streams.control.Control.TheVariants.{Brk, Ip, Ayt, NewLine}

-- every byte is a key, and stands for itself
abbrev pub of_bytes : Keyboard
of_bytes = record { escape = None; own = none_own; editing = none_own; returns = CrNul; may_change = false }

-- the byte is the escape character
abbrev pub is_escape : Option ℕ → ℕ → Bool
is_escape None byte = false
is_escape (Some character) byte = nat_eq byte character

-- the line is one of these two words
abbrev pub is_one : List ℕ → List ℕ → List ℕ → Bool
is_one line letter word = bytes_eq line letter || bytes_eq line word

-- the request of a line to the client itself
abbrev pub command : List ℕ → EscapeCommand
command line =
    if is_one line (codes "q") (codes "quit") || bytes_eq line (codes "close") then Close Leaves
    else if bytes_eq line (codes "again") then Close Returns
    else if is_one line (codes "?") (codes "help") then Help
    else if is_one line (codes "s") (codes "status") then Status
    else if is_one line (codes "z") (codes "suspend") then Suspend
    else if bytes_eq line (codes "log off") then LogOff
    else if starts_with nat_eq line (codes "log ") then LogTo
    else if is_one line (codes "mode auto") (codes "mode char") then Mode
    else if is_some (return_in line) then Return else Unknown

-- the meaning of a line: it may ask for the control functions BRK, IP and AYT; an empty one asks for nothing
abbrev pub meant : List ℕ → Typed
meant line =
    if length line == 0 then typed.Nothing
    else if is_one line (codes "b") (codes "send brk") then typed.Control Brk
    else if is_one line (codes "i") (codes "send ip") then typed.Control Ip
    else if is_one line (codes "a") (codes "send ayt") then typed.Control Ayt else typed.Command (command line)

-- the input that a byte is which edits a line; the line has a meaning once it is ended
abbrev pub typed_by : Edit → List ℕ → Typed
typed_by Enter line = meant line
typed_by _ line = typed.Nothing

-- the escape character on an empty line is a key
abbrev pub typed_again : List ℕ → ℕ → Typed
typed_again line byte = if length line == 0 then typed.Key byte else typed.Nothing

-- RFC 1123, section 3.3.1: the key RETURN, which is CR, as the user wants it to be sent
abbrev pub returned : ReturnKey → ℕ → SessionInput
returned CrNul key = input.Key key
returned CrLf key = if key == 13 then input.Control NewLine else input.Key key
returned Lf key = if key == 13 then input.Key 10 else input.Key key

-- the bytes that RETURN sends: those that were asked for last, if that may be asked for
abbrev pub returns_by : Bool → ReturnKey → Option ReturnKey → ReturnKey
returns_by true usual asked = unwrap_or asked usual
returns_by false usual asked = usual

-- the bytes that RETURN sends, by the keyboard and the last line
abbrev pub returns_of : Keyboard → Prompt → ReturnKey
returns_of keyboard prompt = returns_by keyboard.may_change keyboard.returns prompt.returns

-- an input of a session as what a byte is
abbrev pub typed_as : SessionInput → Typed
typed_as (input.Key key) = typed.Key key
typed_as (input.Control control) = typed.Control control

-- The input that one byte is while a line is typed to the client itself, and at other times: a key of the
-- user's own characters is the standard one, unless it is the escape character, and RETURN is what it is to
-- send.
abbrev pub typed_when : Bool → Keyboard → Prompt → ℕ → Typed
typed_when false keyboard prompt byte =
    if is_escape keyboard.escape byte then typed.Nothing
    else typed_as (returned (returns_of keyboard prompt) (mapped keyboard.own byte))
typed_when true keyboard prompt byte =
    if is_escape keyboard.escape byte then typed_again prompt.line byte
    else typed_by (edit_of keyboard.editing prompt.sequence byte) prompt.line

-- the input that a byte is after those before it
abbrev pub typed_after : Keyboard → Prompt → ℕ → Typed
typed_after keyboard prompt byte = typed_when prompt.is_open keyboard prompt byte

-- the input that the next byte is
abbrev pub reading : Escaping → ℕ → Typed
reading escaping byte = typed_after escaping.keyboard escaping.prompt byte

-- the state of the line after this byte
abbrev pub prompt_when : Bool → Keyboard → Prompt → ℕ → Prompt
prompt_when false keyboard prompt byte = if is_escape keyboard.escape byte then opened prompt else prompt
prompt_when true keyboard prompt byte =
    if is_escape keyboard.escape byte then after_escape prompt
    else after_edit (edit_of keyboard.editing prompt.sequence byte) byte prompt

-- the line to the client itself after one more byte
abbrev pub prompt_after : Keyboard → Prompt → ℕ → Prompt
prompt_after keyboard prompt byte = prompt_when prompt.is_open keyboard prompt byte

-- the line after all of these bytes
abbrev pub prompt_behind : Keyboard → Prompt → List ℕ → Prompt
prompt_behind keyboard prompt [] = prompt
prompt_behind keyboard prompt (byte ∷ bytes) = prompt_behind keyboard (prompt_after keyboard prompt byte) bytes

-- the input that a session gets of a byte, and the request to the client itself
abbrev pub input_in : Typed → List SessionInput
input_in (typed.Key byte) = input.Key byte ∷ []
input_in (typed.Control control) = input.Control control ∷ []
input_in _ = []

-- the command that a byte is, if it is one
abbrev pub command_in : Typed → List EscapeCommand
command_in (typed.Command command) = command ∷ []
command_in _ = []

-- the input is a key
abbrev pub is_key : SessionInput → Bool
is_key (input.Key byte) = true
is_key (input.Control control) = false

-- the inputs that a session gets of the typed bytes, in their order, after this part of a line
abbrev pub inputs : Keyboard → Prompt → List ℕ → List SessionInput
inputs keyboard prompt [] = []
inputs keyboard prompt (byte ∷ bytes) =
    input_in (typed_after keyboard prompt byte) ++ inputs keyboard (prompt_after keyboard prompt byte) bytes

-- the commands to the client itself among the typed bytes, in order
abbrev pub commands : Keyboard → Prompt → List ℕ → List EscapeCommand
commands keyboard prompt [] = []
commands keyboard prompt (byte ∷ bytes) =
    command_in (typed_after keyboard prompt byte) ++ commands keyboard (prompt_after keyboard prompt byte) bytes

-- the bytes were taken one by one, and gave these
abbrev pub AreTaken : Escaping → List ℕ → List Typed → Escaping → Type 0
AreTaken old [] [] new = new ≡ old
AreTaken old [] (t ∷ taken) new = ⊥
AreTaken old (byte ∷ bytes) [] new = ⊥
AreTaken old (byte ∷ bytes) (t ∷ taken) new =
    (between : Escaping) × (t ≡ reading old byte) × (between.keyboard ≡ old.keyboard)
    × (between.prompt ≡ prompt_after old.keyboard old.prompt byte) × AreTaken between bytes taken new

-- the inputs that a session gets of these bytes
abbrev pub inputs_in : List Typed → List SessionInput
inputs_in [] = []
inputs_in (t ∷ taken) = input_in t ++ inputs_in taken

-- these commands were obeyed, in order, after those before them, if that is known
abbrev pub Obeys : Option (List EscapeCommand) → List EscapeCommand → Option (List EscapeCommand) → Type 0
Obeys None these new = new ≡ None
Obeys (Some old) these new = new ≡ Some (old ++ these)

-- the last of these asks to close
abbrev pub AskToClose : List EscapeCommand → Type 0
AskToClose these = (before : List EscapeCommand) × (next : Next) × (these ≡ before ++ (Close next ∷ []))

-- this number of bytes was taken: all, or those up to one that asks to close
abbrev pub IsTakenUpTo : ℕ → Keyboard → Prompt → List ℕ → Type 0
IsTakenUpTo count keyboard prompt bytes =
    (count ≤ length bytes)
    × ((count ≡ length bytes) ⊎ AskToClose (commands keyboard prompt (take count bytes)))

-- the keyboard with its keys as those of no characters of the user's own
abbrev pub unmapped : Keyboard → Keyboard
unmapped keyboard = record keyboard { own = none_own }

-- the input that the user's own characters make of one that a session gets without them; a key that is the
-- escape character was typed after another one
abbrev pub mapped_input : Keyboard → SessionInput → SessionInput
mapped_input keyboard (input.Key byte) =
    if is_escape keyboard.escape byte then input.Key byte else input.Key (mapped keyboard.own byte)
mapped_input keyboard (input.Control control) = input.Control control
