-- Keys alone never fill the queue of a client's session.
use Rattle.std.proofs.Common.{arith, ◌≡◌, ℕ, ◌+◌, ◌≤◌, Bool, true, false, ◌⊎◌, inl, inr, sym, ap, subst}
use Rattle.tn_theorems.specs.progress.{Server.one, Client.{putting, closing, sent_all, piece, State, Sizes, HasPlace, unsent}}
use Rattle.tn_theorems.specs.progress.ClientSteps.{let_go, NeverWaitsToSend, Own, may_read, handles, Outer, brings, MayWrite, MayGo, gone_on, MayBeLet, let_on}
use Rattle.tn_theorems.specs.progress.ClientSteps.{Reached, at_start, goes_on}
use Rattle.tn_theorems.proofs.of_progress.ClientKeeps.{Holds, holds, in_hand, is_putting, still_closing}

-- the writes that are not sent, and those that keys may still become
abbrev ahead : State → ℕ
ahead s = unsent s + s.box.keys + is_putting s.core + in_hand s.typist

abbrev Bounded : Sizes → State → Type 0
Bounded sizes s = (ahead s ≤ sizes.mark + sizes.mails + 2) ⊎ (s.sending ≡ sent_all)

keeps_own : (sizes : Sizes) (own : Own) (s : State) → sizes.answers ≡ false → Holds sizes s → Bounded sizes s → MayGo sizes own s
    → Bounded sizes (gone_on own s)
keeps_own sizes (handles true refused piece) s none h b (at, _, some, may) = absurd (subst (λ (a : Bool). MayWrite a piece) none may)
keeps_own sizes may_read s none h b may = grind arith
keeps_own sizes own s none h b may = grind arith

keeps_let : (sizes : Sizes) (outer : Outer) (s : State) → Bounded sizes s → MayBeLet outer s → Bounded sizes (let_on outer s)
keeps_let sizes brings s b at = grind arith
keeps_let sizes outer s b at = grind arith

bounded : (sizes : Sizes) (s : State) → sizes.answers ≡ false → Reached sizes s → Bounded sizes s
bounded sizes u none (at_start s e) = subst (λ (v : State). Bounded sizes v) (sym e) (inl (omega arith))
bounded sizes u none (goes_on s t r (own, may, e)) = subst (λ (v : State). Bounded sizes v) (sym e)
    (keeps_own sizes own s none (holds sizes s r) (bounded sizes s none r) may)
bounded sizes u none (let_go s t r (outer, may, e)) = subst (λ (v : State). Bounded sizes v) (sym e) (keeps_let sizes outer s (bounded sizes s none r) may)

at_most_one : (b : Bool) → one b ≤ 1
at_most_one true = omega arith
at_most_one false = omega arith

has_place : (sizes : Sizes) (s : State) → sizes.mark + sizes.mails + 3 ≤ sizes.queue → Holds sizes s → (s.core ≡ putting) ⊎ (s.core ≡ closing)
    → ahead s ≤ sizes.mark + sizes.mails + 2 → HasPlace sizes s
has_place sizes s more h (inl at) l = let a = ap is_putting at in let o = at_most_one s.is_put in let p = h.put_once in grind arith
has_place sizes s more h (inr at) l = let a = ap still_closing at in let o = h.is_open in let p = h.put_once in grind arith

pub never_waits_to_send : NeverWaitsToSend
never_waits_to_send sizes s none more r at = by (bounded sizes s none r)
  where
    by : Bounded sizes s → HasPlace sizes s ⊎ (s.sending ≡ sent_all)
    by (inl l) = inl (has_place sizes s more (holds sizes s r) at l)
    by (inr all) = inr all
