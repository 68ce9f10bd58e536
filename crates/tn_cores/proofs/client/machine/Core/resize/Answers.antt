use Rattle.std.proofs.{Common.{refl, ap, Err}, lemmas.Result.err_from_is_err_and}
use Rattle.tn_client.proofs.lemmas.Wanting.{says_something}
use Rattle.tn_client.specs.Events.{resized}
use Rattle.tn_cores.proofs.of_core.{Doing.{does_resize, stops_resize}, Refusing.resize_cause}
use Rattle.tn_cores.proofs.client.machine.Core.resize.Goals as goal

pub returns-clause-ok : goal.returns-clause-ok
returns-clause-ok c = λ seen. does_resize c.args.from c.args.size c.args.self.now _ _ _ seen c.requires refl c.in_ok-resize.ensures.step c.in_ok-resize.ensures.out

pub returns-in_err-resize-clause-err : goal.returns-in_err-resize-clause-err
returns-in_err-resize-clause-err c =
    let p = err_from_is_err_and c.from_residual.result c.from_residual.ensures.1 in
    rw p.1 (λ seen. stops_resize c.args.from c.args.size c.args.self.now _ _ _ seen c.requires refl c.in_err-resize.ensures.err.out)

pub returns-in_err-resize-clause-cause : goal.returns-in_err-resize-clause-cause
returns-in_err-resize-clause-cause c =
    let p = err_from_is_err_and c.from_residual.result c.from_residual.ensures.1 in
    rw (p.1, p.2) (resize_cause c.args.from c.args.size c.args.self.now _ c.requires c.in_err-resize.ensures.failed
    (λ e. says_something c.args.self.now.end (resized c.args.size.width c.args.size.height) c.args.out.now (c.in_err-resize.ensures.memory (ap Err e))))
