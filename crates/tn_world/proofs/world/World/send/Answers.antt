use Rattle.tn_client.specs.Events as client_calls
use Rattle.tn_world.proofs.Bodies.{tells_sound, send_sound}
use Rattle.tn_world.proofs.world.World.send.Goals as goal

pub invariant_of-self-in_default : goal.invariant_of-self-in_default
invariant_of-self-in_default c =
    tells_sound _ _ (client_calls.sent c.args.command) _ tt c.in_ok-send.ensures.failed c.in_ok-send.ensures.step
    c.in_ok-send.ensures.out c.self.invariant

pub invariant_of-self-2 : goal.invariant_of-self-2
invariant_of-self-2 c = send_sound _ _ c.args.command _ _ c.in_ok-send-2.ensures.failed c.in_ok-send-2.ensures.step c.in_ok-send-2.ensures.out
    c.self.invariant
