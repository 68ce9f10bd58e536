-- The key that a command of the user stands for, at a terminal with these settings.
use Rattle.std.specs.Prelude.{◌≡◌, ℕ, Option, Some, None}
use Rattle.tn_discipline.specs.{Keys.role_of_key, declared.keys.Role.{Role, TheVariants.Signal}}
use Rattle.tn_discipline.specs.declared.{reads.Sig.TheVariants.Int, termios.Settings.Settings}
use Rattle.tn_client.specs.declared.commands.UserCommand.{UserCommand, TheVariants.{Brk, Ip, Ayt, Nop}}

-- this key, if its role is to interrupt
abbrev pub key_if : Role → ℕ → Option ℕ
key_if (Signal Int) key = Some key
key_if _ key = None

-- XBD 11.1.9, INTR: the key that interrupts, if there is one, which needs ISIG
abbrev pub interrupt_at : Settings → Option ℕ → Option ℕ
interrupt_at s None = None
interrupt_at s (Some key) = key_if (role_of_key s key) key

-- the key that interrupts at a terminal with these settings, if there is one
abbrev pub interrupt_key : Settings → Option ℕ
interrupt_key s = interrupt_at s s.chars.intr

-- BRK and IP interrupt; AYT and NOP are no input of the terminal
abbrev pub key_for : UserCommand → Settings → Option ℕ
key_for Brk s = interrupt_key s
key_for Ip s = interrupt_key s
key_for Ayt s = None
key_for Nop s = None

-- the effect of the command could be had by keys: it is no input, or there is a key that interrupts
abbrev pub IsTypeable : UserCommand → Settings → Type 0
IsTypeable Brk s = (key : ℕ) × (interrupt_key s ≡ Some key)
IsTypeable Ip s = (key : ℕ) × (interrupt_key s ≡ Some key)
IsTypeable Ayt s = Unit {0}
IsTypeable Nop s = Unit {0}
