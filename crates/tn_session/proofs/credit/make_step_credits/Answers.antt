use Rattle.crossbeam_channel.specs.Claims.{view}
use Rattle.tn_session.proofs.Credits.{cuts}
use Rattle.tn_session.proofs.credit.make_step_credits.Goals as goal

pub bounded_with-requires-clause-rule : goal.bounded_with-requires-clause-rule
bounded_with-requires-clause-rule c = tt

pub another-taken-requires-clause-rule : goal.another-taken-requires-clause-rule
another-taken-requires-clause-rule c = cuts c.in_ok-to.pass.id (view c.in_ok-to.pass)
