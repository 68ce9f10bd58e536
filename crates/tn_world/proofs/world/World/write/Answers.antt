use Rattle.std.proofs.Common.{sym, append-nil}
use Rattle.tn_server.specs.Events as server_calls
use Rattle.tn_world.proofs.Bodies.{asks_sound}
use Rattle.tn_world.proofs.world.World.write.Goals as goal

pub invariant_of-self : goal.invariant_of-self
invariant_of-self c = asks_sound _ _ (server_calls.wrote c.as_slice.result.now) _ tt c.write-count.ensures.step (sym (append-nil _)) c.self.invariant
