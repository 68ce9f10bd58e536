use Rattle.std.proofs.{Common.{Err, ap}, lemmas.Result.err_from_is_err_and}
use Rattle.tn_client.proofs.lemmas.Wanting.{says_something}
use Rattle.tn_client.specs.Events as client_calls
use Rattle.tn_world.proofs.Bodies.{tells_sound, resize_refused}
use Rattle.tn_world.proofs.world.World.resize.Goals as goal

pub invariant_of-self-2 : goal.invariant_of-self-2
invariant_of-self-2 c =
    tells_sound _ _ (client_calls.resized c.args.width c.args.height) _ tt c.in_ok-resize.ensures.failed c.in_ok-resize.ensures.step
    c.in_ok-resize.ensures.out c.self.invariant

pub returns-in_err-resize-clause-err : goal.returns-in_err-resize-clause-err
returns-in_err-resize-clause-err c =
    let p = err_from_is_err_and c.from_residual.result c.from_residual.ensures.1 in
    let w = c.self.inside in
    rw (p.1, p.2) (resize_refused _ _ c.args.width c.args.height _ _ c.if-self.false c.in_err-resize.ensures.failed
    (λ m. says_something w.client (client_calls.resized c.args.width c.args.height) w.to_server (c.in_err-resize.ensures.memory (ap Err m)))
    c.in_err-resize.ensures.err _ c.self.view_is)
