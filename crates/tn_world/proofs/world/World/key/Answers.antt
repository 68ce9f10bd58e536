use Rattle.std.proofs.{Common.{Err, ap}, lemmas.Result.err_from_is_err_and}
use Rattle.tn_client.proofs.lemmas.Wanting.{says_or_shows}
use Rattle.tn_client.specs.Events.{typed}
use Rattle.tn_world.proofs.Bodies.{key_sound, key_refused}
use Rattle.tn_world.proofs.world.World.key.Goals as goal

pub invariant_of-self-2 : goal.invariant_of-self-2
invariant_of-self-2 c = key_sound _ _ (typed c.args.key) _ _ _ tt c.in_ok-key.ensures.failed c.in_ok-key.ensures.step c.in_ok-key.ensures.out c.self.invariant

pub returns-in_err-key-clause-err : goal.returns-in_err-key-clause-err
returns-in_err-key-clause-err c =
    let p = err_from_is_err_and c.from_residual-in_err-key.result c.from_residual-in_err-key.ensures.1 in
    let w = c.self.inside in
    rw (p.1, p.2) (key_refused _ _ (typed c.args.key) _ _ _ _ c.if-self.false c.in_err-key.ensures.failed
    (λ m. says_or_shows w.client c.args.key w.to_server w.echoed (c.in_err-key.ensures.memory (ap Err m)))
    c.in_err-key.ensures.err c.reserve.ensures.items _ c.self.view_is)
