use Rattle.std.proofs.{Common.{Err, ap}, lemmas.Result.err_from_is_err_and}
use Rattle.tn_server.specs.Events as server_calls
use Rattle.tn_world.proofs.Bodies.{asks_sound, asks_refused}
use Rattle.tn_world.proofs.world.World.set_char.Goals as goal

pub invariant_of-self-2 : goal.invariant_of-self-2
invariant_of-self-2 c = asks_sound _ _ (server_calls.char_set c.args.func c.args.value) _ tt c.in_ok-set_char.ensures.step c.in_ok-set_char.ensures.out
    c.self.invariant

pub returns-in_err-set_char-clause-err : goal.returns-in_err-set_char-clause-err
returns-in_err-set_char-clause-err c =
    let p = err_from_is_err_and c.from_residual.result c.from_residual.ensures.1 in
    rw (p.1, p.2) (asks_refused _ _ (server_calls.char_set c.args.func c.args.value) _ c.self.inside.to_client _ c.if-self.false c.in_err-set_char.ensures.fault
    (λ m. c.in_err-set_char.ensures.full (ap Err m)) c.in_err-set_char.ensures.err c.in_err-set_char.ensures.err_appends _ c.self.view_is)
