use Rattle.std.proofs.Common.{OnOk, List, map, subst}
use Rattle.tn_nvt.specs.declared.items.Item.{Item, TheVariants.Byte}
use Rattle.tn_c.specs.parts.Waiting.{AddsItems, items_in}
use Rattle.tn_c.proofs.of_parts.Running.{adds_run, stays_whole}
use Rattle.tn_c.proofs.parts.waiting.WaitingSink.run.Goals as goal

pub invariant_of-self : goal.invariant_of-self
invariant_of-self c =
    let held = c.self.inside in
    stays_whole c.push_run.result held.from held.left c.push_run.new.from held.bytes.items c.args.bytes.now c.push_run.new.bytes.items held.parts.items
    c.push_run.new.parts.items c.self.invariant c.requires.some c.push_run.ensures.from c.push_run.ensures.ok c.push_run.ensures.err

pub returns-clause-ok : goal.returns-clause-ok
returns-clause-ok c =
    let held = c.self.inside in
    let given = c.push_run.new in
    subst (λ (items : List Item). OnOk c.push_run.result (AddsItems items (map Byte c.args.bytes.now) (items_in given.from held.left given.bytes.items given.parts.items)))
    c.self.view_is
    (adds_run c.push_run.result held.from held.left given.from held.bytes.items c.args.bytes.now given.bytes.items held.parts.items given.parts.items
    c.self.invariant c.push_run.ensures.from c.push_run.ensures.ok)
