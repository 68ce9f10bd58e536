use Rattle.std.proofs.lemmas.Result.{IfOk-weaker}
use Rattle.tn_session.proofs.{Finishing.open_finished, Reach.{reach_opened, opened_as}}
use Rattle.tn_session.proofs.session.run_begun.Goals as goal

pub returns-clause-ran : goal.returns-clause-ran
returns-clause-ran g c = IfOk-weaker c.run.result _ _ (λ r on. on _ _ _ (opened_as _ _ _ _ _ _ c.requires.transcript c.open.ensures.opened)) c.run.ensures.ran

pub returns-clause-in_reach : goal.returns-clause-in_reach
returns-clause-in_reach g c = IfOk-weaker c.run.result _ _ (λ r reach. reach_opened _ _ _ _ _ _ _ c.open.ensures.opened reach) c.run.ensures.in_reach

pub returns-clause-finished : goal.returns-clause-finished
returns-clause-finished g c = IfOk-weaker c.run.result _ _ (λ r finished. open_finished _ _ _ c.open.ensures.going finished) c.run.ensures.finished
