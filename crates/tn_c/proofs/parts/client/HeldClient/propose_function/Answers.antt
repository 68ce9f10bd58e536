use Rattle.std.proofs.Common.{ℕ, Option, subst}
use Rattle.tn_c.specs.parts.{ClientCalls.ProposeCall, Readings.char_given}
use Rattle.tn_c.proofs.of_parts.Refusing.{of_found}
use Rattle.tn_c.proofs.parts.client.HeldClient.propose_function.Goals as goal

pub returns-in-Some : goal.returns-in-Some
returns-in-Some c =
    of_found c.args.function (ProposeCall (char_given c.args.value)) c.propose.result c.args.self.now c.propose.new.self c.in-Some.func c.in-Some.ensures
    (subst (λ (value : Option ℕ). ProposeCall value c.in-Some.func c.propose.result c.args.self.now c.propose.new.self) c.char_given.ensures
    c.propose.ensures.call) c.propose.ensures.known
