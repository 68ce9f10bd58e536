use Rattle.std.proofs.Common.{◌≡◌, ◌+◌, ◌≤◌, ◌++◌, length, take, drop, vec_len, vec_capacity}
use Rattle.std.specs.List.{flat_map}
use Rattle.tn_client.specs.Screen.{on_screen}
use Rattle.tn_client.proofs.screen.show_all.Given as goal

abbrev pub invariant-loop-symbol : goal.invariant-loop-symbol
invariant-loop-symbol l = record {
  items : l.screen.items ≡ l.fn.screen.items ++ flat_map on_screen (take l.symbol-index l.symbols);
  room : vec_len l.screen + length (flat_map on_screen (drop l.symbol-index l.symbols)) ≤ vec_capacity l.screen;
}
