use Rattle.std.proofs.Common.{ap}
use Rattle.tn_net.proofs.Giving.{given_only}
use Rattle.tn_net.specs.Passing.{given_of}
use Rattle.tn_net.proofs.console.Console.read_keys.Goals as goal

pub returns-then-not-is_empty-clause-inputs : goal.returns-then-not-is_empty-clause-inputs
returns-then-not-is_empty-clause-inputs g c =
    let old = c.args.self.now in
    let new = c.give.new.self in
    given_only (g.K.Read.remaining old.typing.keys) (g.K.Read.remaining new.typing.keys) old.escaping new.escaping old.asked new.asked old.kept.items
    new.kept.items (given_of c.give.result c.give.new.buf)
    (ap (λ t. g.K.Read.remaining t.keys) c.give.ensures.typing) c.give.ensures.escaping c.give.ensures.inputs
