use Rattle.std.proofs.Common.{ℕ, Option, subst}
use Rattle.tn_c.specs.parts.{ServerCalls.SetCharCall, Readings.char_given}
use Rattle.tn_c.proofs.of_parts.Refusing.{of_found}
use Rattle.tn_c.proofs.parts.server.HeldServer.set_function.Goals as goal

pub returns-in-Some : goal.returns-in-Some
returns-in-Some c =
    of_found c.args.function (SetCharCall (char_given c.args.value)) c.set_char.result c.args.self.now c.set_char.new.self c.in-Some.func c.in-Some.ensures
    (subst (λ (value : Option ℕ). SetCharCall value c.in-Some.func c.set_char.result c.args.self.now c.set_char.new.self) c.char_given.ensures
    c.set_char.ensures.call) c.set_char.ensures.known
