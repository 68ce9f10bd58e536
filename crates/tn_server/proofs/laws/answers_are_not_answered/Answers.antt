use Rattle.tn_linemode.specs.Exchange.{client_answers}
use Rattle.tn_server.proofs.Answered.{unanswered}
use Rattle.tn_server.proofs.laws.answers_are_not_answered.Goals as goal

pub returns : goal.returns
returns c = λ h chars ts.
    unanswered h (client_answers chars ts) (λ s. c.exchanges_end.ensures.answers chars s ts) (c.exchanges_end.ensures.asks chars ts)
