-- The effects of keys and commands on a terminal.
use Rattle.std.specs.Prelude.{◌≡◌, ℕ, Bool, Option, Some, None, List, [], ◌∷◌, ◌++◌, map, if◌then◌else◌}
use Rattle.tn_codes.specs.declared.codes.Command.{Command}
use Rattle.tn_codes.specs.declared.codes.Command.TheVariants as command
use Rattle.tn_discipline.specs.{HalfLine.{HalfLine, effect_of, line_after, effect_entries}, Runs.gains_from}
use Rattle.tn_discipline.specs.{Characters.Characters, Keys.{role_of_key, literal_role}, Echo.echo_at}
use Rattle.tn_discipline.specs.declared.{termios.Settings.Settings, reads.Sig.TheVariants.{Int, Quit, Tstp}}
use Rattle.tn_discipline.specs.declared.{reads.Entry.Entry, keys.Role.Role, echo.Symbol.Symbol}
use Rattle.tn_discipline.specs.declared.echo.Symbol.TheVariants.{Byte, Newline}
use Rattle.tn_discipline.specs.declared.keys.Role.TheVariants as role
use Rattle.tn_pty.specs.{Terminal.{Terminal, queue_with}, declared.pty.Input.Input}
use Rattle.tn_pty.specs.declared.pty.Input.TheVariants.{Keys, Edited}

-- the entries that a key of this role gives at this line
abbrev pub gain_of : HalfLine → Role → List Entry
gain_of line r = effect_entries (effect_of line r)

-- those of the symbols that are there
abbrev pub symbols_in : List (Option Symbol) → List Symbol
symbols_in [] = []
symbols_in (None ∷ rest) = symbols_in rest
symbols_in (Some symbol ∷ rest) = symbol ∷ symbols_in rest

-- the echo of a key that comes at this line, if there is one
abbrev pub echo_symbols : Bool → Settings → ℕ → HalfLine → List Symbol
echo_symbols echo settings key line =
    let r = role_of_key settings key in
    if echo then symbols_in (echo_at settings.flags r (effect_of line r)) else []

-- the terminal after a key or command of this role, which is answered by these symbols
abbrev pub terminal_after : Terminal → Role → List Symbol → Terminal
terminal_after old r symbols =
    record old {
      line = line_after old.line r;
      entries = old.entries ++ gain_of old.line r;
      queue = queue_with old.queue symbols;
    }

-- the role of a byte, by how it comes to the master: as a key, or as a byte of a line that was edited before
abbrev pub role_of_input : Input → Settings → ℕ → Role
role_of_input (Keys echo) settings = role_of_key settings
role_of_input Edited settings = literal_role settings.chars

-- the symbols that are shown of a byte that comes at this line: none of an edited one
abbrev pub input_symbols : Input → Settings → ℕ → HalfLine → List Symbol
input_symbols (Keys echo) settings key line = echo_symbols echo settings key line
input_symbols Edited settings byte line = []

-- the terminal after a byte
abbrev pub after_byte : Input → Terminal → ℕ → Terminal
after_byte input old byte =
    let shown = input_symbols input old.settings byte old.line in
    terminal_after old (role_of_input input old.settings byte) shown

-- the terminal after bytes, one after another
abbrev pub after_all : Input → Terminal → List ℕ → Terminal
after_all input old [] = old
after_all input old (byte ∷ bytes) = after_all input (after_byte input old byte) bytes

-- the entries that bytes give, one after another
abbrev pub input_gains : Input → Terminal → List ℕ → List Entry
input_gains input old bytes = gains_from old.line (map (role_of_input input old.settings) bytes)

-- a byte of an edited line that joins it
abbrev pub JoinsEdited : Characters → ℕ → Type 0
JoinsEdited chars byte = literal_role chars byte ≡ role.Ordinary byte

-- RFC 854 and RFC 1184, section 2: the key that a command stands for. This project takes BRK as an interrupt;
-- commands that stand for none change no line
abbrev pub command_role : Command → Role
command_role command.Eof = role.Eof
command_role command.Susp = role.Signal Tstp
command_role command.Abort = role.Signal Quit
command_role command.Brk = role.Signal Int
command_role command.Ip = role.Signal Int
command_role command.Ec = role.Erase
command_role command.El = role.Kill
command_role command.Eor = role.Ignored
command_role command.Nop = role.Ignored
command_role command.Dm = role.Ignored
command_role command.Ao = role.Ignored
command_role command.Ayt = role.Ignored
command_role command.Ga = role.Ignored

-- AYT is answered by `[Yes]` and a new line, and no other command by anything
abbrev pub command_shows : Command → List Symbol
command_shows command.Ayt = Byte 91 ∷ Byte 89 ∷ Byte 101 ∷ Byte 115 ∷ Byte 93 ∷ Newline ∷ []
command_shows _ = []
