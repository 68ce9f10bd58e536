use Rattle.tn_server.specs.Events as server_calls
use Rattle.tn_world.proofs.Bodies.{asks_sound}
use Rattle.tn_world.proofs.world.World.pull.Goals as goal

pub invariant_of-self-2 : goal.invariant_of-self-2
invariant_of-self-2 c = asks_sound _ _ (server_calls.pulled c.in_ok-pull.field-0) _ tt c.in_ok-pull.ensures.step c.in_ok-pull.ensures.out c.self.invariant
