use Rattle.tn_example_echo.specs.Said.{SaysMore}
use Rattle.tn_example_echo.proofs.answer.Given as goal

abbrev pub invariant-loop : goal.invariant-loop
invariant-loop l = SaysMore l.fn.end l.fn.out.items l.out.items l.end
