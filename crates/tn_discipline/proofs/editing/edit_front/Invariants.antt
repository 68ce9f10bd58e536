use Rattle.std.proofs.Common.{◌≡◌, ◌+◌, ◌<◌, ◌≤◌, All, take, vec_len, vec_capacity}
use Rattle.tn_discipline.specs.{Editing.{IsQuiet, line_at}, Runs.{line_after_all, each_role}}
use Rattle.tn_discipline.proofs.editing.edit_front.Given as goal

-- the keys so far made no entry, and did to the parts what they do
abbrev pub invariant-loop-key : goal.invariant-loop-key
invariant-loop-key l =
    record {
      count : l.count ≡ l.key-index;
      limit : l.parts.limit ≡ l.initial.parts.limit;
      room : l.parts.limit ≤ vec_capacity l.parts.held;
      fits : l.parts.ahead + vec_len l.parts.held < l.parts.limit;
      quiet : All (IsQuiet l.roles) (take l.key-index l.keys);
      line : line_at l.parts.held.items l.parts.ahead l.parts.limit
          ≡ line_after_all (line_at l.initial.parts.held.items l.initial.parts.ahead l.initial.parts.limit) (each_role l.roles (take l.key-index l.keys));
    }
