use Rattle.std.proofs.Common.{ap, ◌∙◌}
use Rattle.tn_option.specs.Options.{state_of}
use Rattle.tn_server.specs.Terms.{Terms}
use Rattle.tn_server.proofs.end.ServerEnd.option.Goals as goal

pub returns : goal.returns
returns c = rw (← c.self.view_is) (λ h leads. c.q_state.ensures ∙ ap (λ (t : Terms). state_of t.options c.args.side c.args.option) leads.terms)
