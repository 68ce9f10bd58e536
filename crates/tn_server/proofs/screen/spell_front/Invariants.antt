use Rattle.std.proofs.Common.{◌≡◌, ◌+◌, ◌*◌, ◌-◌, ◌≤◌, ◌++◌, map, take, drop, vec_len, vec_capacity}
use Rattle.tn_nvt.specs.Spelling.{spells}
use Rattle.tn_server.specs.Replies.{data_of}
use Rattle.tn_server.proofs.screen.spell_front.Given as goal

-- the first symbols have gone from the pair into the vector, which has room for the others
abbrev pub invariant-loop-done : goal.invariant-loop-done
invariant-loop-done l =
    record {
      within : l.done ≤ l.count;
      pair : l.pair ≡ record l.initial.pair { queue = drop l.done l.initial.pair.queue };
      items : l.out.items ≡ l.initial.out.items ++ spells (map data_of (take l.done l.initial.pair.queue));
      room : vec_len l.out + 2 * (l.count - l.done) ≤ vec_capacity l.out;
    }

abbrev pub decreases-loop-done : goal.decreases-loop-done
decreases-loop-done l = l.count - l.done
