use Rattle.std.proofs.Common.{ap, ◌∙◌}
use Rattle.tn_option.specs.Options.{Options, state_of}
use Rattle.tn_client.proofs.end.ClientEnd.option.Goals as goal

pub returns : goal.returns
returns c =
    rw (← c.self.view_is) (record {
      value = c.q_state.ensures;
      stands = λ h leads. c.q_state.ensures ∙ ap (λ (o : Options). state_of o c.args.side c.args.option) leads.options;
    })
