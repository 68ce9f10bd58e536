use Rattle.std.proofs.Common.{◌≡◌, map, take}
use Rattle.tn_world.specs.declared.events.Event.TheVariants as event
use Rattle.tn_cli.proofs.playing.keys_typed.Given as goal

abbrev pub invariant-loop-key : goal.invariant-loop-key
invariant-loop-key l = l.events.items ≡ map event.Key (take l.key-index l.keys)
