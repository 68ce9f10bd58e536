use Rattle.std.proofs.Common.{[], ◌++◌, ap}
use Rattle.tn_net.proofs.Giving.{given_only}
use Rattle.tn_net.specs.Passing.{given_of, handed_on}
use Rattle.tn_net.proofs.console.ConsoleSource.read_some.Goals as goal

pub returns-then-is_left-clause-inputs : goal.returns-then-is_left-clause-inputs
returns-then-is_left-clause-inputs g c =
    let old = c.args.self.now in
    let new = c.leave.new.self in
    given_only (g.K.Read.remaining old.typing.keys) (g.K.Read.remaining new.typing.keys) old.escaping new.escaping old.asked new.asked old.kept.items
    new.kept.items (given_of c.leave.result c.leave.new.buf)
    (ap (λ t. g.K.Read.remaining t.keys) c.leave.ensures.typing) c.leave.ensures.escaping c.leave.ensures.inputs

pub returns-in-Size-clause-inputs : goal.returns-in-Size-clause-inputs
returns-in-Size-clause-inputs g c =
    let old = c.args.self.now in
    let new = c.take_size.new.self in
    let size = c.take_size.ensures in
    given_only (g.K.Read.remaining old.typing.keys) (g.K.Read.remaining new.typing.keys) old.escaping new.escaping old.asked new.asked old.kept.items
    new.kept.items []
    (ap (λ k. g.K.Read.remaining k) size.keys) size.escaping (λ i. handed_on [] (size.asked i) ++ (size.kept i).items)
