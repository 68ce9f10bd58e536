use Rattle.std.proofs.Common.{◌≡◌, ◌+◌, ◌*◌, ◌≤◌, ◌++◌, map, take, drop, vec_len, vec_capacity}
use Rattle.tn_nvt.specs.Spelling.{spells}
use Rattle.tn_server.specs.Replies.{data_of}
use Rattle.tn_server.proofs.screen.spell_each.Given as goal

-- this number of symbols has gone from the pair into the vector
abbrev pub invariant-loop-symbol : goal.invariant-loop-symbol
invariant-loop-symbol l =
    record {
      pair : l.pair ≡ record l.initial.pair { queue = drop l._symbol l.initial.pair.queue };
      items : l.out.items ≡ l.initial.out.items ++ spells (map data_of (take l._symbol l.initial.pair.queue));
      len : vec_len l.out ≤ vec_len l.initial.out + 2 * l._symbol;
      capacity : vec_capacity l.initial.out ≤ vec_capacity l.out;
    }
