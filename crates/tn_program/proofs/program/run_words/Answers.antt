use Rattle.std.proofs.{Common.{ap, ◌∙◌}, lemmas.Result.{IfErr-weaker, IfOk-weaker}}
use Rattle.tn_program.specs.Statuses.{status_of}
use Rattle.tn_program.proofs.program.run_words.Goals as goal

pub returns-clause-ended : goal.returns-clause-ended
returns-clause-ended g c = IfOk-weaker c.args.words _ _ (λ words comes. (c.outcome_of_words-outcome.result, comes, c.status-status.ensures))
    c.outcome_of_words-outcome.ensures.comes

pub returns-clause-memory : goal.returns-clause-memory
returns-clause-memory g c = IfErr-weaker c.args.words _ _ (λ error known is. c.status-status.ensures ∙ ap status_of (known is))
    c.outcome_of_words-outcome.ensures.memory

pub returns-clause-usage : goal.returns-clause-usage
returns-clause-usage g c = IfErr-weaker c.args.words _ _ (λ error known is. c.status-status.ensures ∙ ap status_of (known is)) c.outcome_of_words-outcome.ensures.usage
