use Rattle.std.proofs.Common.{inl, inr}
use Rattle.tn_program.proofs.program.outcome_of_words.Goals as goal

pub returns-in-Ok-asked_of-clause-comes : goal.returns-in-Ok-asked_of-clause-comes
returns-in-Ok-asked_of-clause-comes g c = rw c.in-Ok.is (inl (c.in-Ok-asked_of.asked, c.in-Ok-asked_of.ensures, c.run_asked.ensures))

pub returns-in-Err-asked_of-clause-comes : goal.returns-in-Err-asked_of-clause-comes
returns-in-Err-asked_of-clause-comes g c = rw c.in-Ok.is (inr c.outcome_of_fault.ensures)
