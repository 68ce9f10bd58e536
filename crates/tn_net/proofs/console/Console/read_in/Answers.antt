use Rattle.std.proofs.Common.{[], refl}
use Rattle.tn_net.proofs.Giving.{kept_only}
use Rattle.tn_net.proofs.console.Console.read_in.Goals as goal

pub returns-in_err-count-clause-inputs : goal.returns-in_err-count-clause-inputs
returns-in_err-count-clause-inputs g c =
    let console = c.args.self.now in
    kept_only (g.K.Read.remaining console.typing.keys) (g.K.Read.remaining c.read.new.self) console.escaping console.asked console.asked console.kept.items
    console.kept.items [] c.in_err-count.ensures.bytes refl
