use Rattle.std.proofs.{Common.{Err, ap}, lemmas.Result.err_from_is_err_and}
use Rattle.tn_server.specs.Events as server_calls
use Rattle.tn_world.proofs.Bodies.{asks_sound, asks_refused}
use Rattle.tn_world.proofs.world.World.wish.Goals as goal

pub invariant_of-self-2 : goal.invariant_of-self-2
invariant_of-self-2 c = asks_sound _ _ (server_calls.wished c.args.editing) _ tt c.in_ok-wish.ensures.step c.in_ok-wish.ensures.out c.self.invariant

pub returns-in_err-wish-clause-err : goal.returns-in_err-wish-clause-err
returns-in_err-wish-clause-err c =
    let p = err_from_is_err_and c.from_residual.result c.from_residual.ensures.1 in
    rw (p.1, p.2) (asks_refused _ _ (server_calls.wished c.args.editing) _ c.self.inside.to_client _ c.if-self.false c.in_err-wish.ensures.fault
    (λ m. c.in_err-wish.ensures.full (ap Err m)) c.in_err-wish.ensures.err c.in_err-wish.ensures.err_appends _ c.self.view_is)
