-- The commands that count as typed by a client are those that a server's terminal takes as keys.
use Rattle.std.specs.Prelude.{◌≡◌, Bool, true, false}
use Rattle.tn_codes.specs.declared.codes.Command.{Command}
use Rattle.tn_discipline.specs.declared.keys.Role.{Role}
use Rattle.tn_discipline.specs.declared.keys.Role.TheVariants as role
use Rattle.tn_pty.specs.Typing.{command_role}
use Rattle.tn_net.specs.Presence.{stands_for_key}

-- whether a key with this role does something
abbrev pub does_something : Role → Bool
does_something role.Ignored = false
does_something _ = true

-- a command counts as typed exactly if the terminal takes it as a key
abbrev pub TypedAreKeys : Type 0
TypedAreKeys = (command : Command) → stands_for_key command ≡ does_something (command_role command)
