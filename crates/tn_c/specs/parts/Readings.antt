-- The numbers of the facts that an end reports of itself.
use Rattle.std.specs.Prelude.{ℕ, Bool, true, false, Option, Some, None, nat_lt, if◌then◌else◌}
use Rattle.tn_client.specs.{Replies.command_sent, declared.commands.UserCommand.UserCommand}
use Rattle.tn_codes.specs.Codes.{command_code}
use Rattle.tn_option.specs.declared.q_method.{Side.{Side, TheVariants.{Us, Them}}, QState.QState}
use Rattle.tn_option.specs.declared.q_method.QState.TheVariants as state
use Rattle.tn_server.specs.declared.wishes.Editing.{Editing, TheVariants.{Local, Remote}}

-- the side of an option that C gives: ours, or theirs
abbrev pub side_given : Bool → Side
side_given true = Us
side_given false = Them

-- the side at which C requests that lines be edited: at the client, or at the server
abbrev pub editing_given : Bool → Editing
editing_given true = Local
editing_given false = Remote

-- no character: what no byte is
abbrev pub no_char : ℕ
no_char = 256

-- a special character as C sees it
abbrev pub char_number : Option ℕ → ℕ
char_number None = no_char
char_number (Some byte) = byte

-- the special character that C gives: none by what is no byte
abbrev pub char_given : ℕ → Option ℕ
char_given value = if nat_lt value no_char then Some value else None

-- RFC 854, "TELNET COMMAND STRUCTURE": the byte of a command that a user sends
abbrev pub command_number : UserCommand → ℕ
command_number command = command_code (command_sent command)

-- the number of the state of a side of an option
abbrev pub state_number : QState → ℕ
state_number state.No = 0
state_number state.Yes = 1
state_number state.WantNoEmpty = 2
state_number state.WantNoOpposite = 3
state_number state.WantYesEmpty = 4
state_number state.WantYesOpposite = 5
