use Rattle.tn_example_echo.proofs.Saying.{says_piece, says_then}
use Rattle.tn_example_echo.proofs.answer.Goals as goal

pub loop-init : goal.loop-init
loop-init c = says_piece _ _ _ _ _ c.in_ok-feed.ensures.ok

pub returns-then-not-branch : goal.returns-then-not-branch
returns-then-not-branch c = says_then _ _ _ _ _ _ c.loop.invariant c.in_ok-answer_next.ensures.says

pub loop-preserved : goal.loop-preserved
loop-preserved c = says_then _ _ _ _ _ _ c.loop.invariant c.in_ok-answer_next.ensures.says
