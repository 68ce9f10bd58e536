use Rattle.std.proofs.Common.{◌≡◌, ◌≤◌, ◌-◌, [], length, take, vec_len, vec_capacity}
use Rattle.tn_cores.specs.streams.Telling.{HasMade}
use Rattle.tn_cli.specs.{Streams.max_writes, Typing.max_printed}
use Rattle.tn_cli.proofs.Entries.{HasGiven}
use Rattle.tn_cli.proofs.local.write_entries.Given as goal

-- the keys so far were typed, and what they print was written
abbrev pub invariant-loop-typed : goal.invariant-loop-typed
invariant-loop-typed g l =
    let contents = g.W.Drain.contents in
    let told = g.W.Drain.told in
    record {
      within : l.typed ≤ length l.keys;
      left : l.left ≤ max_writes;
      empty : l.typing.printed.items ≡ [];
      len : vec_len l.typing.printed ≡ 0;
      room : max_printed ≤ vec_capacity l.typing.printed;
      given : HasGiven (take l.typed l.keys) l.typing (contents l.fn.writer) (contents l.writer);
      made : HasMade (max_writes - l.left) (told l.fn.writer) (told l.writer);
    }

abbrev pub decreases-loop-typed : goal.decreases-loop-typed
decreases-loop-typed g l = length l.keys - l.typed
