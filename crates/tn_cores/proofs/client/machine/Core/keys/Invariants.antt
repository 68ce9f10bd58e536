use Rattle.std.proofs.Common.{◌≡◌, take}
use Rattle.tn_cores.specs.client.{Counting.after_piece, Reaching.TypesAll}
use Rattle.tn_cores.proofs.client.machine.Core.keys.Given as goal

-- the keys so far were typed
abbrev pub invariant-loop-key : goal.invariant-loop-key
invariant-loop-key l =
    record {
      types : TypesAll l.fn.self.end (take l.key-index l.keys) l.fn.out.items l.out.items l.fn.screen.items l.screen.items l.self.end;
      progress : l.self.progress ≡ after_piece l.fn.self.progress;
    }
