use Rattle.std.proofs.Common.{refl}
use Rattle.tn_world.proofs.Soundness.{sound_as}
use Rattle.tn_world.proofs.world.World.happen.Goals as goal

pub invariant_of-self : goal.invariant_of-self
invariant_of-self c = sound_as _ _ refl refl refl refl c.self.invariant

pub invariant_of-self-in-ClientStops : goal.invariant_of-self-in-ClientStops
invariant_of-self-in-ClientStops c = sound_as _ _ refl refl refl refl c.self-in-ClientStops.invariant
