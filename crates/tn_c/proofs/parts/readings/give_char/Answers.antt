use Rattle.std.proofs.Common.{refl}
use Rattle.tn_c.proofs.parts.readings.give_char.Goals as goal

pub returns-in-Some-clause-no_function : goal.returns-in-Some-clause-no_function
returns-in-Some-clause-no_function c =
    (λ e. cc, λ all. absurd (all c.in-Some.func ((c.in-Some.ensures c.in-Some.func).0 refl)))
