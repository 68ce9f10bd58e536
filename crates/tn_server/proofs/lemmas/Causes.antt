-- The cause why an item was refused, in terms of the history.
use Rattle.std.proofs.Common.{◌<◌, inl, inr, ℕ, length, sym, ap, ◌∙◌, subst}
use Rattle.tn_discipline.specs.{Keys.gives_entry}
use Rattle.tn_linemode.specs.Words.{IsList}
use Rattle.tn_nvt.specs.declared.items.Item.{Item}
use Rattle.tn_pty.specs.Terminal.{max_waiting}
use Rattle.tn_pty.specs.declared.pty.PtyFault.TheVariants as pty
use Rattle.tn_server.specs.{Calls.{End, LeadsTo}, Events.History, Faults.IsCause, Steps.IsRefusedFor, Terms.{Terms, payload_at}}
use Rattle.tn_server.specs.declared.faults.ServerFault.{ServerFault, TheVariants.{Pty, Memory, Failed, Char, NotOn}}
use Rattle.tn_server.proofs.{lemmas.{Ends.waits_are, Leading.replies_item}, Standings.role_is}

pub causes : (h : History) (old : End) (item : Item) (f : ServerFault) → LeadsTo h old → IsRefusedFor old item f → IsCause h item f
causes h old item (Pty pty.Closed) s x = tt
causes h old item (Pty pty.TooFarAhead) s x = (ap gives_entry (sym (role_is h old item s)) ∙ x.0, ap length (waits_are h old s) ∙ x.1)
causes h old item (Pty pty.Memory) s x = (
  ap gives_entry (sym (role_is h old item s)) ∙ x.0,
  subst (λ (n : ℕ). n < max_waiting) (sym (ap length (waits_are h old s))) x.1,
)
causes h old item Memory s (inl some) = inl (λ none. some (sym (replies_item h old item s) ∙ none))
causes h old item Memory s (inr list) = inr (subst (λ (t : Terms). IsList (payload_at t.options item)) s.terms list)
causes h old item Failed s x = absurd x
causes h old item (Char fault) s x = absurd x
causes h old item NotOn s x = absurd x
