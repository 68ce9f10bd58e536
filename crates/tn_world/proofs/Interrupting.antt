-- The key that a command stands for interrupts.
use Rattle.std.proofs.Common.{◌≡◌, ℕ, Option, Some, None, refl, sym, ap, ◌∙◌}
use Rattle.tn_discipline.specs.{Keys.role_of_key, declared.{keys.Role.Role, reads.Sig.TheVariants.Int, termios.Settings.Settings}}
use Rattle.tn_discipline.specs.declared.keys.Role.TheVariants as role
use Rattle.tn_world.specs.Commands.{key_if, interrupt_at}

key_interrupts : (r : Role) (key k : ℕ) → key_if r key ≡ Some k → (r ≡ role.Signal Int) × (key ≡ k)
key_interrupts (role.Signal Int) key k is = (refl, cc)
key_interrupts _ key k is = absurd (cc)

pub interrupts_there : (s : Settings) (intr : Option ℕ) (key : ℕ) → interrupt_at s intr ≡ Some key → role_of_key s key ≡ role.Signal Int
interrupts_there s None key is = absurd (cc)
interrupts_there s (Some k) key is =
    let p = key_interrupts (role_of_key s k) k key is in
    ap (λ (x : ℕ). role_of_key s x) (sym p.1) ∙ p.0
