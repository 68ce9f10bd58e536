use Rattle.std.proofs.Common.{◌≡◌, All, take}
use Rattle.tn_discipline.specs.RolesTable.{IsPlain}
use Rattle.tn_discipline.proofs.role_table.Roles.ordinary_front.Given as goal

-- the keys so far join the line as they are
abbrev pub invariant-loop-key : goal.invariant-loop-key
invariant-loop-key l =
    record {
      count : l.count ≡ l.key-index;
      plain : All (IsPlain l.self-inside.settings) (take l.key-index l.keys);
    }
