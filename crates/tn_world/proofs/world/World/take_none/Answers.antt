use Rattle.std.proofs.{Common.refl, lemmas.Result.err_from_is_err_and}
use Rattle.tn_world.proofs.{Bodies.takes_sound, Taking.{take_refused, takes_none}}
use Rattle.tn_world.proofs.world.World.take_none.Goals as goal

pub invariant_of-self-2 : goal.invariant_of-self-2
invariant_of-self-2 c = takes_sound _ _ _ _ c.in_ok-_none.ensures.step c.in_ok-_none.ensures.out c.self.invariant

pub returns-in_err-_none-clause-err : goal.returns-in_err-_none-clause-err
returns-in_err-_none-clause-err c =
    let p = err_from_is_err_and c.from_residual.result c.from_residual.ensures.1 in
    rw (p.1, p.2) (take_refused _ _ _ _ _ c.in_err-_none.ensures.fault c.in_err-_none.ensures.grows c.in_err-_none.ensures.err
    c.in_err-_none.ensures.err_appends refl _ c.self.view_is)

pub returns-clause-ok : goal.returns-clause-ok
returns-clause-ok c = takes_none _ _ _ c.in_ok-_none.ensures.step c.in_ok-_none.ensures.out _ c.self.view_is c.requires
