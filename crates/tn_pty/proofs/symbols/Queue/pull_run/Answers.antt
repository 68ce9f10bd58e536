use Rattle.std.proofs.Common.{◌≡◌, ◌≤◌, ◌+◌, ◌-◌, ℕ, List, ◌++◌, length, take, drop, min, sym, ap, ◌∙◌, arith, length-append}
use Rattle.circular_buffer.specs.Buffer.{Buffer, buffer}
use Rattle.tn_discipline.specs.declared.echo.Symbol.{Symbol}
use Rattle.tn_pty.specs.Runs.{leading_run, leading_bytes, feeds, marked_symbols}
use Rattle.tn_pty.proofs.Marked.{length-marked, leading_marked, leading-le, drop_run}
use Rattle.tn_pty.proofs.symbols.Queue.pull_run.Goals as goal

pub copy_run-count-requires : goal.copy_run-count-requires
copy_run-count-requires c =
    let p = c.self.inside in
    let front = c.as_slices.result.0.now in
    let back = c.as_slices.result.1.now in
    let size : length front + length back ≡ length c.args.self.now =
    sym (length-append front back) ∙ ap length c.as_slices.ensures ∙ sym (length-marked p.bytes.items p.marks.items) ∙ ap length c.self.view_is in
    omega (arith, c.requires, size)

pub overflow_sub-len : goal.overflow_sub-len
overflow_sub-len c =
    let front = c.as_slices.result.0.now in
    let back = c.as_slices.result.1.now in
    omega (arith, c.copy_run-count.ensures.count, leading-le c.args.ends.0 c.args.ends.1 (front ++ back), ap length c.as_slices.ensures, c.len-len.ensures.len)

pub invariant_of-self : goal.invariant_of-self
invariant_of-self c =
    let p = c.self.inside in
    let a = c.args.ends.0 in
    let b = c.args.ends.1 in
    let bytes = p.bytes.items in
    let n = c.copy_run-count.result in
    let same = ap (leading_bytes a b) c.as_slices.ensures in
    let within : n ≤ length (leading_bytes a b bytes) = omega (arith, c.copy_run-count.ensures.count, ap length same) in
    let kept : length bytes - (c.len-len.result - n) ≡ n = omega (arith, c.len-len.ensures.len, within, leading-le a b bytes) in
    let left : c.truncate_front.new.self ≡ buffer (drop n bytes) p.bytes.capacity =
    c.truncate_front.ensures ∙ ap (λ k. buffer (drop k bytes) p.bytes.capacity) kept in
    let run = drop_run a b n bytes p.marks.items within in (
      ap (λ (x : Buffer ℕ). x.capacity) left ∙ c.self.invariant.0,
      c.self.invariant.1,
      c.self.invariant.2 ∙ sym run.1 ∙ sym (ap (λ (x : Buffer ℕ). feeds x.items) left),
    )

pub returns-then-count-eq0-clause-count : goal.returns-then-count-eq0-clause-count
returns-then-count-eq0-clause-count c =
    let p = c.self.inside in
    let a = c.args.ends.0 in
    let b = c.args.ends.1 in
    let same = ap (leading_bytes a b) c.as_slices.ensures ∙ sym (leading_marked a b p.bytes.items p.marks.items) ∙ ap (leading_run a b) c.self.view_is in
    sym c.if-count-eq0.true ∙ c.copy_run-count.ensures.count ∙ ap (λ (xs : List ℕ). min c.args.max (length xs)) same

pub returns-clause-count : goal.returns-clause-count
returns-clause-count c =
    let p = c.self.inside in
    let a = c.args.ends.0 in
    let b = c.args.ends.1 in
    let same = ap (leading_bytes a b) c.as_slices.ensures ∙ sym (leading_marked a b p.bytes.items p.marks.items) ∙ ap (leading_run a b) c.self.view_is in
    c.copy_run-count.ensures.count ∙ ap (λ (xs : List ℕ). min c.args.max (length xs)) same

pub returns-clause-items : goal.returns-clause-items
returns-clause-items c =
    let p = c.self.inside in
    let a = c.args.ends.0 in
    let b = c.args.ends.1 in
    let same = ap (leading_bytes a b) c.as_slices.ensures ∙ sym (leading_marked a b p.bytes.items p.marks.items) ∙ ap (leading_run a b) c.self.view_is in
    c.copy_run-count.ensures.items ∙ ap (λ (xs : List ℕ). c.args.out.now.items ++ take c.copy_run-count.result xs) same

pub returns-clause-queue : goal.returns-clause-queue
returns-clause-queue c =
    let p = c.self.inside in
    let a = c.args.ends.0 in
    let b = c.args.ends.1 in
    let bytes = p.bytes.items in
    let n = c.copy_run-count.result in
    let same = ap (leading_bytes a b) c.as_slices.ensures in
    let within : n ≤ length (leading_bytes a b bytes) = omega (arith, c.copy_run-count.ensures.count, ap length same) in
    let kept : length bytes - (c.len-len.result - n) ≡ n = omega (arith, c.len-len.ensures.len, within, leading-le a b bytes) in
    let left : c.truncate_front.new.self ≡ buffer (drop n bytes) p.bytes.capacity =
    c.truncate_front.ensures ∙ ap (λ k. buffer (drop k bytes) p.bytes.capacity) kept in
    let run = drop_run a b n bytes p.marks.items within in
    ap (λ (x : Buffer ℕ). marked_symbols x.items p.marks.items) left ∙ sym run.0 ∙ ap (λ (q : List Symbol). drop n q) c.self.view_is
