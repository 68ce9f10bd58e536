use Rattle.std.proofs.Common.{◌≡◌, ◌≤◌, length, vec_len, vec_capacity}
use Rattle.tn_discipline.proofs.Filling.{AgreesTo}
use Rattle.tn_discipline.proofs.role_table.fill.Given as goal

-- the roles of the keys so far
abbrev pub invariant-loop-key : goal.invariant-loop-key
invariant-loop-key l =
    record {
      within : l.key ≤ 256;
      count : length l.table.items ≡ l.key;
      len : vec_len l.table ≡ l.key;
      capacity : vec_capacity l.table ≡ vec_capacity l.initial.table;
      agrees : AgreesTo l.settings l.table.items l.key;
    }
