-- When a server has served what it was asked for.
use Rattle.std.proofs.Common.{◌≡◌, ◌≤◌, inl, inr, ℕ, true, Result, Ok, Err, IfOk, sym, subst, ◌∙◌}
use Rattle.tn_serve.specs.{Ends.{AreEnough, ServesUntil}, declared.{acceptor.Accepted.Accepted, fault.ServeFault.ServeFault, served.Served.Served}}

pub enough : (count : ℕ) (told : Type 0) (accepted : Accepted) (served : Served) → served.accepted ≡ accepted.count → (accepted.is_told ≡ true → told)
    → AreEnough count accepted
    → ServesUntil count told served
enough count told accepted served same tells (inl all) = inl (same ∙ all)
enough count told accepted served same tells (inr few) = inr (subst (λ (n : ℕ). n ≤ count) (sym same) few.0, tells few.1)

-- the count of what was served, if it agrees with what was accepted
pub served_until : (count : ℕ) (told : Type 0) (accepted : Accepted) (result : Result Served ServeFault)
    → IfOk result (λ served. served.accepted ≡ accepted.count) → IfOk result (λ _. AreEnough count accepted) → (accepted.is_told ≡ true → told)
    → IfOk result (ServesUntil count told)
served_until count told accepted (Ok served) same are tells = enough count told accepted served same tells are
served_until count told accepted (Err fault) same are tells = tt
