use Rattle.tn_client.specs.Events as client_calls
use Rattle.tn_world.proofs.Bodies.{tells_sound}
use Rattle.tn_world.proofs.world.World.propose.Goals as goal

pub invariant_of-self-2 : goal.invariant_of-self-2
invariant_of-self-2 c =
    tells_sound _ _ (client_calls.proposed c.args.func c.args.value) _ tt c.in_ok-propose.ensures.failed c.in_ok-propose.ensures.step
    c.in_ok-propose.ensures.out c.self.invariant
