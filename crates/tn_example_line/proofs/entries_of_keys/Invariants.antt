use Rattle.std.proofs.Common.{take}
use Rattle.tn_example_line.specs.Typed.{HasTyped}
use Rattle.tn_example_line.proofs.entries_of_keys.Given as goal

abbrev pub invariant-loop-key : goal.invariant-loop-key
invariant-loop-key l = HasTyped (take l.key-index l.keys) l.line l.entries.items
