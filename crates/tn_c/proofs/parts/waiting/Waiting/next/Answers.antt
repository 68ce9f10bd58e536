use Rattle.std.proofs.{Common.{◌≡◌, ◌+◌, List, ◌∷◌, drop, sym, ap, subst, ◌∙◌, rules, arith}, lemmas.{Grind.common_steps, List.Elements.All-tail}}
use Rattle.std.specs.Prelude.{All}
use Rattle.tn_c.specs.{parts.Waiting.{IsFilled, run_bytes}, declared.parts.waiting.Part.{Part, TheVariants.{Run, One}}}
use Rattle.tn_c.proofs.of_parts.Running.{begins, first_of, has_bytes, rest_whole}
use Rattle.tn_c.proofs.parts.waiting.Waiting.next.Goals as goal

pub returns-then-self-gt0-clause-item : goal.returns-then-self-gt0-clause-item
returns-then-self-gt0-clause-item c =
    let held = c.self.inside in
    let byte = c.index-byte.result.now in
    let read = c.index-byte.ensures in
    let some = c.if-self-gt0.true in
    let counts = c.self.invariant.counts in
    let step : drop held.from held.bytes.items ≡ byte ∷ drop (held.from + 1) held.bytes.items = grind (arith, common_steps) in
    sym c.self.view_is ∙ first_of held.from held.left held.bytes.items held.parts.items byte step (grind (arith, some))

pub invariant_of-self-in-Some-One : goal.invariant_of-self-in-Some-One
invariant_of-self-in-Some-One c =
    let held = c.self.inside in
    let rest = c.pop_front.new.self.items in
    let is : held.parts.items ≡ One c.in-Some-One.item ∷ rest = search rules in
    record {
      counts = omega (arith, c.self.invariant.counts, ap run_bytes is);
      filled = All-tail IsFilled (One c.in-Some-One.item) rest (subst (λ (ps : List Part). All IsFilled ps) is c.self.invariant.filled);
    }

pub invariant_of-self-in-Some-Run : goal.invariant_of-self-in-Some-Run
invariant_of-self-in-Some-Run c =
    let held = c.self.inside in
    let past = c.if-self-gt0.false in
    let none : held.left ≡ 0 = grind (arith, common_steps) in
    let rest = c.pop_front.new.self.items in
    let is : held.parts.items ≡ Run c.in-Some-Run.count ∷ rest = search rules in
    let whole = rest_whole held.from held.left c.in-Some-Run.count held.bytes.items held.parts.items rest c.self.invariant none is in
    let some = has_bytes c.in-Some-Run.count held.parts.items rest c.self.invariant.filled is in
    record { counts = omega (arith, whole.counts, some); filled = whole.filled }

pub returns-in-Some-Run-clause-item : goal.returns-in-Some-Run-clause-item
returns-in-Some-Run-clause-item c =
    let held = c.self.inside in
    let past = c.if-self-gt0.false in
    let none : held.left ≡ 0 = grind (arith, common_steps) in
    let rest = c.pop_front.new.self.items in
    let is : held.parts.items ≡ Run c.in-Some-Run.count ∷ rest = search rules in
    let whole = rest_whole held.from held.left c.in-Some-Run.count held.bytes.items held.parts.items rest c.self.invariant none is in
    let some = has_bytes c.in-Some-Run.count held.parts.items rest c.self.invariant.filled is in
    let counts = whole.counts in
    let byte = c.index-byte-in-Some-Run.result.now in
    let read = c.index-byte-in-Some-Run.ensures in
    let step : drop held.from held.bytes.items ≡ byte ∷ drop (held.from + 1) held.bytes.items = grind (arith, common_steps) in
    sym c.self.view_is
    ∙ begins held.from held.left c.in-Some-Run.count held.bytes.items held.parts.items rest none is
    ∙ first_of held.from c.in-Some-Run.count held.bytes.items rest byte step some

pub returns-in-Some-Run-clause-none : goal.returns-in-Some-Run-clause-none
returns-in-Some-Run-clause-none c = λ empty.
    absurd (let first = sym (returns-in-Some-Run-clause-item c) ∙ empty in cc)
