use Rattle.std.proofs.Common.{◌≡◌, ◌≤◌, ◌-◌, length, take, vec_len, vec_capacity}
use Rattle.tn_cli.specs.Typing.{Types}
use Rattle.tn_cli.proofs.typing.Typing.fill.Given as goal

-- the keys so far were typed
abbrev pub invariant-loop-typed : goal.invariant-loop-typed
invariant-loop-typed l =
    record {
      within : l.typed ≤ length l.keys;
      first : l.typed ≡ 0 → vec_len l.self.printed ≡ 0;
      types : Types (take l.typed l.keys) l.initial.self l.self;
      capacity : vec_capacity l.initial.self.printed ≤ vec_capacity l.self.printed;
    }

abbrev pub decreases-loop-typed : goal.decreases-loop-typed
decreases-loop-typed l = length l.keys - l.typed
