use Rattle.std.proofs.{Common.{Err, ap}, lemmas.Result.err_from_is_err_and}
use Rattle.tn_client.proofs.lemmas.Wanting.{enters_or_shows}
use Rattle.tn_client.specs.Events.{entered}
use Rattle.tn_world.proofs.Bodies.{key_sound, key_refused}
use Rattle.tn_world.proofs.world.World.new_line.Goals as goal

pub invariant_of-self-2 : goal.invariant_of-self-2
invariant_of-self-2 c = key_sound _ _ entered _ _ _ tt c.in_ok-new_line.ensures.failed c.in_ok-new_line.ensures.step c.in_ok-new_line.ensures.out c.self.invariant

pub returns-in_err-new_line-clause-err : goal.returns-in_err-new_line-clause-err
returns-in_err-new_line-clause-err c =
    let p = err_from_is_err_and c.from_residual-in_err-new_line.result c.from_residual-in_err-new_line.ensures.1 in
    let w = c.self.inside in
    rw (p.1, p.2) (key_refused _ _ entered _ _ _ _ c.if-self.false c.in_err-new_line.ensures.failed
    (λ m. enters_or_shows w.client w.to_server w.echoed (c.in_err-new_line.ensures.memory (ap Err m)))
    c.in_err-new_line.ensures.err c.reserve.ensures.items _ c.self.view_is)
