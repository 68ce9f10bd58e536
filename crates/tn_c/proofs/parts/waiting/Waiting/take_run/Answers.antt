use Rattle.std.proofs.Common.{◌≡◌, ◌++◌, ℕ, List, length, map, drop, take, sym, ap, subst, ◌∙◌, arith}
use Rattle.std.proofs.lemmas.{Grind.common_steps, List.{length-drop, length-take}}
use Rattle.tn_nvt.specs.declared.items.Item.{Item, TheVariants.Byte}
use Rattle.tn_c.specs.parts.Waiting.{items_in, StartsWithData}
use Rattle.tn_c.proofs.of_parts.Running.{begins, has_bytes, moved, no_data, rest_whole}
use Rattle.tn_c.proofs.parts.waiting.Waiting.take_run.Goals as goal

pub returns-then-self-gt0-clause-run : goal.returns-then-self-gt0-clause-run
returns-then-self-gt0-clause-run c =
    let held = c.self.inside in
    let count = c.move_run.result in
    let buf = c.move_run.new.buf in
    let later = c.move_run.new.left in
    sym c.self.view_is
    ∙ moved held.from held.left count later held.bytes.items held.parts.items buf c.move_run.ensures.left
    (c.move_run.ensures.copies.front ∙ ap (λ (l : List ℕ). take count (take held.left (drop held.from l))) c.as_slice.ensures.value)
    ∙ ap (λ (n : ℕ). map Byte (take count buf) ++ items_in n later held.bytes.items held.parts.items) (sym c.move_run.ensures.from)

pub invariant_of-self-in-Some : goal.invariant_of-self-in-Some
invariant_of-self-in-Some c =
    let held = c.self.inside in
    let past = c.if-self-gt0.false in
    let none : held.left ≡ 0 = grind (arith, common_steps) in
    let whole = rest_whole held.from held.left c.in-Some.count held.bytes.items held.parts.items c.first_run.new.parts.items c.self.invariant none c.in-Some.ensures in
    let began = c.move_run-in-Some.ensures in
    record { counts = omega (arith, whole.counts, began.from, began.left); filled = whole.filled }

pub returns-in-None-clause-some : goal.returns-in-None-clause-some
returns-in-None-clause-some c = λ some starts.
    let held = c.self.inside in
    let past = c.if-self-gt0.false in
    let none : held.left ≡ 0 = grind (arith, common_steps) in
    absurd (no_data held.from held.left held.bytes.items held.parts.items none c.in-None.ensures.1 c.self.invariant.filled
    (subst (λ (items : List Item). StartsWithData items) (sym c.self.view_is) starts))

pub returns-in-Some-clause-run : goal.returns-in-Some-clause-run
returns-in-Some-clause-run c =
    let held = c.self.inside in
    let past = c.if-self-gt0.false in
    let none : held.left ≡ 0 = grind (arith, common_steps) in
    let count = c.move_run-in-Some.result in
    let buf = c.move_run-in-Some.new.buf in
    let later = c.move_run-in-Some.new.left in
    let parts = c.first_run.new.parts.items in
    sym c.self.view_is
    ∙ begins held.from held.left c.in-Some.count held.bytes.items held.parts.items parts none c.in-Some.ensures
    ∙ moved held.from c.in-Some.count count later held.bytes.items parts buf c.move_run-in-Some.ensures.left
    (c.move_run-in-Some.ensures.copies.front
    ∙ ap (λ (l : List ℕ). take count (take c.in-Some.count (drop held.from l))) c.as_slice-in-Some.ensures.value)
    ∙ ap (λ (n : ℕ). map Byte (take count buf) ++ items_in n later held.bytes.items parts) (sym c.move_run-in-Some.ensures.from)

pub returns-in-Some-clause-some : goal.returns-in-Some-clause-some
returns-in-Some-clause-some c = λ some starts.
    let held = c.self.inside in
    let past = c.if-self-gt0.false in
    let none : held.left ≡ 0 = grind (arith, common_steps) in
    let whole = rest_whole held.from held.left c.in-Some.count held.bytes.items held.parts.items c.first_run.new.parts.items c.self.invariant none c.in-Some.ensures in
    let bytes = c.as_slice-in-Some.result.now in
    omega (
      arith,
      some,
      whole.counts,
      c.move_run-in-Some.ensures.copies.fits,
      ap length c.as_slice-in-Some.ensures.value,
      length-take c.in-Some.count (drop held.from bytes),
      length-drop held.from bytes,
      has_bytes c.in-Some.count held.parts.items c.first_run.new.parts.items c.self.invariant.filled c.in-Some.ensures,
    )
