use Rattle.std.proofs.Common.{refl}
use Rattle.tn_world.proofs.{Promise.marked, Soundness.sound_as}
use Rattle.tn_world.proofs.world.World.mark.Goals as goal

pub invariant_of-self : goal.invariant_of-self
invariant_of-self c = sound_as _ _ refl refl refl refl c.self.invariant

pub returns-clause-follows : goal.returns-clause-follows
returns-clause-follows c = λ t. marked c.args.self.now _ _ _ c.self.view_is c.self.invariant
    (c.if-not-is_settled.ensures.0 refl) c.clear.ensures.items c.clear-2.ensures.items
