use Rattle.std.proofs.{Common.{Err, ap}, lemmas.Result.err_from_is_err_and}
use Rattle.tn_server.specs.Events as server_calls
use Rattle.tn_world.proofs.Bodies.{asks_sound, asks_refused}
use Rattle.tn_world.proofs.world.World.mask.Goals as goal

pub invariant_of-self-2 : goal.invariant_of-self-2
invariant_of-self-2 c = asks_sound _ _ (server_calls.mask_set c.args.mask) _ tt c.in_ok-set_mask.ensures.step c.in_ok-set_mask.ensures.out c.self.invariant

pub returns-in_err-set_mask-clause-err : goal.returns-in_err-set_mask-clause-err
returns-in_err-set_mask-clause-err c =
    let p = err_from_is_err_and c.from_residual.result c.from_residual.ensures.1 in
    rw (p.1, p.2) (asks_refused _ _ (server_calls.mask_set c.args.mask) _ c.self.inside.to_client _ c.if-self.false c.in_err-set_mask.ensures.fault
    (λ m. c.in_err-set_mask.ensures.full (ap Err m)) c.in_err-set_mask.ensures.err c.in_err-set_mask.ensures.err_appends _ c.self.view_is)
