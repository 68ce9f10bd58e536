use Rattle.std.proofs.Common.{◌≡◌, ◌+◌, ◌-◌, ℕ, Bool, List, ◌++◌, length, take, drop, refl, sym, ap, ◌∙◌, arith, append_assoc, length-append, length-take}
use Rattle.circular_buffer.specs.Buffer.{Buffer, buffer}
use Rattle.tn_discipline.specs.declared.echo.Symbol.{Symbol}
use Rattle.tn_pty.specs.Runs.{feeds, marked_symbols}
use Rattle.tn_pty.proofs.Marked.{length-marked, drop-marked, marks_left, symbols_cut, marks_cut}
use Rattle.tn_pty.proofs.symbols.Queue.pull.Goals as goal

pub slice_bounds-far-length : goal.slice_bounds-far-length
slice_bounds-far-length c =
    let p = c.self.inside in
    let bytes = p.bytes.items in
    let marks = p.marks.items in
    let n = c.args.count in
    let front = c.as_slices.result.0.now in
    let back = c.as_slices.result.1.now in
    let m = n - length (take c.min.result front) in
    let size : length front + length back ≡ length c.args.self.now =
    sym (length-append front back) ∙ ap length c.as_slices.ensures ∙ sym (length-marked bytes marks) ∙ ap length c.self.view_is in
    omega (arith, c.requires.enough, size, c.min.ensures, length-take c.min.result front, length-take m back)

pub overflow_sub-len : goal.overflow_sub-len
overflow_sub-len c =
    let p = c.self.inside in
    let size : length c.args.self.now ≡ length p.bytes.items = ap length (sym c.self.view_is) ∙ length-marked p.bytes.items p.marks.items in
    omega (arith, c.requires.enough, size, c.len-len.ensures.len)

pub invariant_of-self : goal.invariant_of-self
invariant_of-self c =
    let p = c.self.inside in
    let bytes = p.bytes.items in
    let marks = p.marks.items in
    let n = c.args.count in
    let front = c.as_slices.result.0.now in
    let back = c.as_slices.result.1.now in
    let m = n - length (take c.min.result front) in
    let size : length c.args.self.now ≡ length bytes = ap length (sym c.self.view_is) ∙ length-marked bytes marks in
    let kept : length bytes - (c.len-len.result - n) ≡ n = omega (arith, c.len-len.ensures.len, c.requires.enough, size) in
    let left : c.truncate_front.new.self ≡ buffer (drop n bytes) p.bytes.capacity =
    c.truncate_front.ensures ∙ ap (λ k. buffer (drop k bytes) p.bytes.capacity) kept in
    let taken : c.push_symbols-2.new.marks ≡ buffer (drop (feeds (take n bytes)) marks) p.marks.capacity =
    c.push_symbols-2.ensures.marks
    ∙ ap (λ (x : Buffer Bool). buffer (drop (feeds (take m back)) x.items) x.capacity) c.push_symbols.ensures.marks
    ∙ ap (λ ms. buffer ms p.marks.capacity) (marks_cut n c.min.result m front back bytes marks c.min.ensures refl c.as_slices.ensures) in (
      ap (λ (x : Buffer ℕ). x.capacity) left ∙ c.self.invariant.0,
      ap (λ (x : Buffer Bool). x.capacity) taken ∙ c.self.invariant.1,
      ap (λ (x : Buffer Bool). length x.items) taken
          ∙ marks_left n bytes marks c.self.invariant.2
          ∙ sym (ap (λ (x : Buffer ℕ). feeds x.items) left),
    )

pub returns-clause-out : goal.returns-clause-out
returns-clause-out c =
    let p = c.self.inside in
    let bytes = p.bytes.items in
    let marks = p.marks.items in
    let n = c.args.count in
    let front = c.as_slices.result.0.now in
    let back = c.as_slices.result.1.now in
    let m = n - length (take c.min.result front) in
    let first = marked_symbols (take c.min.result front) marks in
    let second = λ (ms : List Bool). marked_symbols (take m back) ms in
    c.push_symbols-2.ensures.items
    ∙ ap (λ (x : Buffer Bool). c.push_symbols.new.out.items ++ second x.items) c.push_symbols.ensures.marks
    ∙ ap (λ (xs : List Symbol). xs ++ second (drop (feeds (take c.min.result front)) marks)) c.push_symbols.ensures.items
    ∙ append_assoc c.args.out.now.items first (second (drop (feeds (take c.min.result front)) marks))
    ∙ ap (λ (xs : List Symbol). c.args.out.now.items ++ xs)
    (symbols_cut n c.min.result m front back bytes marks c.min.ensures refl c.as_slices.ensures ∙ ap (λ (q : List Symbol). take n q) c.self.view_is)

pub returns-clause-queue : goal.returns-clause-queue
returns-clause-queue c =
    let p = c.self.inside in
    let bytes = p.bytes.items in
    let marks = p.marks.items in
    let n = c.args.count in
    let front = c.as_slices.result.0.now in
    let back = c.as_slices.result.1.now in
    let m = n - length (take c.min.result front) in
    let size : length c.args.self.now ≡ length bytes = ap length (sym c.self.view_is) ∙ length-marked bytes marks in
    let kept : length bytes - (c.len-len.result - n) ≡ n = omega (arith, c.len-len.ensures.len, c.requires.enough, size) in
    let left : c.truncate_front.new.self ≡ buffer (drop n bytes) p.bytes.capacity =
    c.truncate_front.ensures ∙ ap (λ k. buffer (drop k bytes) p.bytes.capacity) kept in
    let taken : c.push_symbols-2.new.marks ≡ buffer (drop (feeds (take n bytes)) marks) p.marks.capacity =
    c.push_symbols-2.ensures.marks
    ∙ ap (λ (x : Buffer Bool). buffer (drop (feeds (take m back)) x.items) x.capacity) c.push_symbols.ensures.marks
    ∙ ap (λ ms. buffer ms p.marks.capacity) (marks_cut n c.min.result m front back bytes marks c.min.ensures refl c.as_slices.ensures) in
    ap (λ (x : Buffer ℕ). marked_symbols x.items c.push_symbols-2.new.marks.items) left
    ∙ ap (λ (x : Buffer Bool). marked_symbols (drop n bytes) x.items) taken
    ∙ sym (drop-marked n bytes marks)
    ∙ ap (λ (q : List Symbol). drop n q) c.self.view_is
