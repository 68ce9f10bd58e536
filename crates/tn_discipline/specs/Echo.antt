-- The symbols that a terminal shows of a key (XBD 11.2.5: ECHO, ECHOE, ECHOK, ECHONL).
use Rattle.std.specs.Prelude.{ℕ, Bool, true, false, ◌&&◌, ◌||◌, Option, Some, None, List, [], ◌∷◌}
use Rattle.std.specs.Prelude.{if◌then◌else◌}
use Rattle.tn_discipline.specs.declared.{termios.Flags.Flags, keys.Role.Role, half_line.Effect.Effect}
use Rattle.tn_discipline.specs.declared.echo.Symbol.{Symbol, TheVariants.{Byte, Newline}}
use Rattle.tn_discipline.specs.declared.keys.Role.TheVariants as role
use Rattle.tn_discipline.specs.declared.half_line.Effect.TheVariants as effect

-- nothing is shown
abbrev pub no_echo : List (Option Symbol)
no_echo = None ∷ None ∷ None ∷ []

-- one symbol is shown if the flags say so
abbrev pub one_shown : Bool → Symbol → List (Option Symbol)
one_shown shown symbol = if shown then Some symbol ∷ None ∷ None ∷ [] else no_echo

-- an ordinary byte is shown as it is, and one that was dropped as a bell
abbrev pub ordinary_shown : ℕ → Effect → Symbol
ordinary_shown byte effect.Dropped = Byte 7
ordinary_shown byte _ = Byte byte

-- a byte was given up
abbrev pub is_erased : Effect → Bool
is_erased effect.Erased = true
is_erased effect.ErasedAhead = true
is_erased _ = false

-- a byte is wiped by a backspace, a space and a backspace
abbrev pub wiping_symbols : List (Option Symbol)
wiping_symbols = Some (Byte 8) ∷ Some (Byte 32) ∷ Some (Byte 8) ∷ []

-- the symbols that are shown of a key of this role that had this effect
abbrev pub echo_at : Flags → Role → Effect → List (Option Symbol)
echo_at flags (role.Ordinary byte) e = one_shown flags.echo (ordinary_shown byte e)
echo_at flags role.Nl e = one_shown (flags.echo || flags.echonl) Newline
echo_at flags (role.Eol byte) e = one_shown flags.echo (Byte byte)
echo_at flags (role.Eol2 byte) e = one_shown flags.echo (Byte byte)
echo_at flags role.Erase e = if flags.echo && (flags.echoe && is_erased e) then wiping_symbols else no_echo
echo_at flags role.Kill e = one_shown (flags.echo && flags.echok) Newline
echo_at flags _ e = no_echo
