use Rattle.std.proofs.Common.{take}
use Rattle.tn_world.specs.Worlds.{Runs}
use Rattle.tn_world.proofs.world.World.run.Given as goal

abbrev pub invariant-loop-at : goal.invariant-loop-at
invariant-loop-at l = record { runs : Runs l.initial.self (take l.at l.events) l.self }
