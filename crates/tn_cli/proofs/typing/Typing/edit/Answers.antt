use Rattle.std.proofs.Common.{take, refl}
use Rattle.tn_cli.specs.declared.typing.Typing.{Typing}
use Rattle.tn_cli.proofs.Keys.{typed_run, plain_advance}
use Rattle.tn_cli.proofs.typing.Typing.edit.Goals as goal

pub returns-then-count-lt-FEW_BYTES-clause-types : goal.returns-then-count-lt-FEW_BYTES-clause-types
returns-then-count-lt-FEW_BYTES-clause-types c =
    let run = c.edit_run in
    let new : Typing = record (c.args.self.now) { line = run.new.self } in
    typed_run c.args.self.now new (take run.result c.args.keys.now) refl run.ensures.advances refl

pub returns-clause-types : goal.returns-clause-types
returns-clause-types c =
    let old = c.args.self.now in
    let kept = c.keep_run-kept in
    let keys = take c.ordinary_front-count.result c.args.keys.now in
    let new : Typing = record old { line = kept.new.self } in
    typed_run old new keys refl (plain_advance old.roles keys old.line kept.new.self c.ordinary_front-count.ensures.plain kept.ensures.each) refl
