use Rattle.std.proofs.Common.{◌<◌, length, arith}
use Rattle.tn_cli.proofs.Keys.{types_next}
use Rattle.tn_cli.proofs.typing.Typing.front.Goals as goal

pub returns-clause-types : goal.returns-clause-types
returns-clause-types c =
    let typed = c.edit-count in
    let within : typed.result < length c.args.keys.now = omega (arith, typed.ensures.within, c.if-count-keys.false) in
    types_next c.args.self.now typed.new.self c.key.new.self c.args.keys.now typed.result within typed.ensures.types c.key.ensures.types
