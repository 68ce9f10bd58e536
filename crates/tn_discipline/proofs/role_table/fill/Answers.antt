use Rattle.std.proofs.Common.{arith, ap, ◌∙◌, ◌+◌, ◌∷◌, [], length, length-append}
use Rattle.tn_discipline.proofs.Filling.{agrees_more}
use Rattle.tn_discipline.proofs.role_table.fill.Goals as goal

pub loop-key-preserved : goal.loop-key-preserved
loop-key-preserved c =
    let before = c.loop-key.invariant in
    let pushed = c.push_reserved.ensures in
    record {
      within = omega (arith, c.loop-key-test.true);
      count = ap length pushed.items ∙ length-append c.loop-key.table.items (c.role_of.result ∷ []) ∙ ap (λ n. n + 1) before.count;
      len = pushed.len ∙ ap (λ n. n + 1) before.len;
      capacity = pushed.capacity ∙ before.capacity;
      agrees = rw pushed.items (agrees_more c.args.settings.now c.loop-key.table.items c.loop-key.key c.role_of.result before.count before.agrees
          c.role_of.ensures);
    }
