use Rattle.std.proofs.Common.{[], ◌∷◌, OnOk, OnErr, List, sym, subst, arith}
use Rattle.tn_nvt.specs.declared.items.Item.{Item, TheVariants.Byte}
use Rattle.tn_c.specs.parts.Waiting.{AddsItems, AddsNone, items_in}
use Rattle.tn_c.proofs.of_parts.Running.{adds_none, adds_one, adds_run, is_other, one_whole, stays_whole}
use Rattle.tn_c.proofs.parts.waiting.WaitingSink.item.Goals as goal

pub invariant_of-self : goal.invariant_of-self
invariant_of-self c =
    let held = c.self.inside in
    stays_whole c.push_run.result held.from held.left c.push_run.new.from held.bytes.items (c.in-Byte.byte ∷ []) c.push_run.new.bytes.items held.parts.items
    c.push_run.new.parts.items c.self.invariant (omega arith) c.push_run.ensures.from c.push_run.ensures.ok c.push_run.ensures.err

pub returns-in-Byte-clause-ok : goal.returns-in-Byte-clause-ok
returns-in-Byte-clause-ok c =
    let held = c.self.inside in
    let given = c.push_run.new in
    let now = items_in given.from held.left given.bytes.items given.parts.items in
    subst (λ (item : Item). OnOk c.push_run.result (AddsItems c.args.self.now (item ∷ []) now)) (sym c.in-Byte.is)
    (subst (λ (items : List Item). OnOk c.push_run.result (AddsItems items (Byte c.in-Byte.byte ∷ []) now)) c.self.view_is
    (adds_run c.push_run.result held.from held.left given.from held.bytes.items (c.in-Byte.byte ∷ []) given.bytes.items held.parts.items given.parts.items
    c.self.invariant c.push_run.ensures.from c.push_run.ensures.ok))

pub invariant_of-self-in_default : goal.invariant_of-self-in_default
invariant_of-self-in_default c =
    let held = c.self.inside in
    one_whole c.push.result held.from held.left held.bytes.items held.parts.items c.push.new.parts.items c.args.item c.self.invariant
    (is_other c.args.item (λ byte e. c.in_default.not-Byte byte e)) c.push.ensures.ok c.push.ensures.err

pub returns-in_default : goal.returns-in_default
returns-in_default c =
    let held = c.self.inside in
    let now = items_in held.from held.left held.bytes.items c.push.new.parts.items in
    record {
      ok = subst (λ (items : List Item). OnOk c.push.result (AddsItems items (c.args.item ∷ []) now)) c.self.view_is
          (adds_one c.push.result held.from held.left held.bytes.items held.parts.items c.push.new.parts.items c.args.item c.push.ensures.ok);
      err = subst (λ (items : List Item). OnErr c.push.result (AddsNone items (c.args.item ∷ []) now)) c.self.view_is
          (adds_none c.push.result held.from held.left held.bytes.items held.parts.items c.push.new.parts.items c.push.ensures.err);
    }
