use Rattle.std.proofs.{Common.{arith, ap, sym, ◌∙◌, ◌+◌, ◌<◌, take, get_or}, lemmas.List.{take_more, Elements.All-push}}
use Rattle.tn_discipline.specs.{declared.keys.Role.TheVariants.Ordinary, RolesTable.IsPlain}
use Rattle.tn_discipline.proofs.role_table.Roles.ordinary_front.Goals as goal

pub loop-key-preserved : goal.loop-key-preserved
loop-key-preserved c =
    let keys = c.args.keys.now in
    let i = c.loop-key.key-index in
    let fits : get_or keys i 0 < 256 = omega (arith, c.type_inv.keys i) in
    let here : IsPlain c.self.inside.settings (get_or keys i 0) =
    sym (c.self.invariant.0.agrees (get_or keys i 0) c.index.result.now fits) ∙ sym c.index.ensures ∙ c.in-Ordinary.is ∙ ap Ordinary c.if-byte-key.true in
    record {
      count = ap (λ n. n + 1) c.loop-key.invariant.count;
      plain = rw (take_more keys i 0 c.loop-key-test.true) (All-push (IsPlain c.self.inside.settings) (take i keys)
          (get_or keys i 0) c.loop-key.invariant.plain here);
    }
