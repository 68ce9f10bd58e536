-- Why a terminal refuses a key or a command.
use Rattle.std.specs.Prelude.{◌≡◌, ◌<◌, ℕ, IsTrue, IsFalse, List, [], ◌∷◌, ◌++◌, length}
use Rattle.tn_discipline.specs.{Keys.gives_entry, declared.keys.Role.Role}
use Rattle.tn_pty.specs.{Terminal.{Terminal, max_waiting, shut_terminal}, declared.pty.Input.Input}
use Rattle.tn_pty.specs.{Typing.{role_of_input, after_byte, after_all}, declared.pty.PtyFault.PtyFault}
use Rattle.tn_pty.specs.declared.pty.PtyFault.TheVariants.{Closed, TooFarAhead, Memory}

-- the terminal takes keys, and has room for the entry that a key of this role makes
pub record Accepts (old : Terminal) (r : Role) : Type 0 where
  pub opened : IsFalse old.closed
  pub room : IsTrue (gives_entry r) → length old.entries < max_waiting

-- A key of this role is refused, and has no effect but that the terminal is shut: it was shut already, or
-- 1,024 entries wait, or no memory was found for the entry that the key makes.
abbrev pub Refuses : Terminal → Role → PtyFault → Terminal → Type 0
Refuses old r Closed new = IsTrue old.closed × (new ≡ old)
Refuses old r TooFarAhead new =
    IsFalse old.closed × IsTrue (gives_entry r) × (length old.entries ≡ max_waiting)
    × (new ≡ shut_terminal old)
Refuses old r Memory new = Accepts old r × IsTrue (gives_entry r) × (new ≡ shut_terminal old)

-- each of these bytes is accepted at the terminal that those before it leave
abbrev pub AcceptsAll : Input → Terminal → List ℕ → Type 0
AcceptsAll input old [] = Unit {0}
AcceptsAll input old (byte ∷ bytes) =
    Accepts old (role_of_input input old.settings byte) × AcceptsAll input (after_byte input old byte) bytes

-- Bytes came until one was refused: some of them were accepted, and then the next was refused.
pub record StopsWithin (input : Input) (old : Terminal) (bytes : List ℕ) (fault : PtyFault)
    (new : Terminal) : Type 0 where
  pub done : List ℕ
  pub byte : ℕ
  pub left : List ℕ
  pub whole : bytes ≡ done ++ byte ∷ left
  pub accepted : AcceptsAll input old done
  pub refused : Refuses (after_all input old done) (role_of_input input old.settings byte) fault new
