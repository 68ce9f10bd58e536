use Rattle.std.proofs.Common.{sym, ap, ◌∙◌}
use Rattle.tn_pty.specs.Terminal.{first_signal}
use Rattle.tn_server.proofs.lemmas.Ends.{waits_are}
use Rattle.tn_server.proofs.end.ServerEnd.signal_waiting.Goals as goal

pub returns : goal.returns
returns c = rw (← c.self.view_is) (λ h leads. c.signal_waiting.ensures ∙ ap first_signal (sym (waits_are h _ leads)))
