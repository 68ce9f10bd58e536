use Rattle.std.proofs.Common.{◌≡◌, ◌+◌, ◌++◌, length, take, min, ap, ◌∙◌, arith, append_assoc, length-append, length-take}
use Rattle.tn_pty.specs.Runs.{leading_bytes}
use Rattle.tn_pty.proofs.Marked.{leading-le, copied_within, copied_beyond, take_counted}
use Rattle.tn_pty.proofs.symbols.copy_run.Goals as goal

pub returns-then-count-near-clause-count : goal.returns-then-count-near-clause-count
returns-then-count-near-clause-count c =
    let front = c.args.front.now in
    let back = c.args.back.now in
    let copied = c.copy_front-count in
    let a = c.args.ends.0 in
    let b = c.args.ends.1 in
    copied.ensures.count
    ∙ ap length (copied_within a b c.args.max c.min.result copied.result front back c.min.ensures copied.ensures.count c.if-count-near.true)
    ∙ length-take c.args.max (leading_bytes a b (front ++ back))

pub returns-then-count-near-clause-items : goal.returns-then-count-near-clause-items
returns-then-count-near-clause-items c =
    let front = c.args.front.now in
    let back = c.args.back.now in
    let copied = c.copy_front-count in
    let a = c.args.ends.0 in
    let b = c.args.ends.1 in
    let run = copied_within a b c.args.max c.min.result copied.result front back c.min.ensures copied.ensures.count c.if-count-near.true in
    let count = copied.ensures.count ∙ ap length run ∙ length-take c.args.max (leading_bytes a b (front ++ back)) in
    copied.ensures.items
    ∙ ap (λ xs. c.args.out.now.items ++ xs) (run ∙ take_counted c.args.max copied.result (leading_bytes a b (front ++ back)) count)

pub overflow_sub-max : goal.overflow_sub-max
overflow_sub-max c =
    let near = take c.min.result c.args.front.now in
    omega (arith, c.min.ensures, c.copy_front-count.ensures.count, leading-le c.args.ends.0 c.args.ends.1 near, length-take c.min.result c.args.front.now)

pub copy_front-requires : goal.copy_front-requires
copy_front-requires c =
    let near = take c.min.result c.args.front.now in
    let copied = c.copy_front-count in
    omega (
      arith,
      c.requires,
      c.min.ensures,
      c.min-2.ensures,
      copied.ensures.count,
      copied.ensures.len,
      copied.ensures.capacity,
      leading-le c.args.ends.0 c.args.ends.1 near,
      length-take c.min.result c.args.front.now,
      length-take c.min-2.result c.args.back.now,
    )

pub returns-clause-count : goal.returns-clause-count
returns-clause-count c =
    let front = c.args.front.now in
    let back = c.args.back.now in
    let copied = c.copy_front-count in
    let more = c.copy_front in
    let a = c.args.ends.0 in
    let b = c.args.ends.1 in
    let run = copied_beyond a b c.args.max c.min.result copied.result front back c.min.ensures copied.ensures.count c.min-2.result c.min-2.ensures
    c.if-count-near.false in
    let both = length-append (leading_bytes a b (take c.min.result front)) (leading_bytes a b (take c.min-2.result back)) in
    omega (arith, copied.ensures.count, more.ensures.count, both, ap length run, length-take c.args.max (leading_bytes a b (front ++ back)))

pub returns-clause-items : goal.returns-clause-items
returns-clause-items c =
    let front = c.args.front.now in
    let back = c.args.back.now in
    let copied = c.copy_front-count in
    let more = c.copy_front in
    let a = c.args.ends.0 in
    let b = c.args.ends.1 in
    let first = leading_bytes a b (take c.min.result front) in
    let second = leading_bytes a b (take c.min-2.result back) in
    let run = copied_beyond a b c.args.max c.min.result copied.result front back c.min.ensures copied.ensures.count c.min-2.result c.min-2.ensures
    c.if-count-near.false in
    let count : copied.result + more.result ≡ min c.args.max (length (leading_bytes a b (front ++ back))) =
    omega (
      arith,
      copied.ensures.count,
      more.ensures.count,
      length-append first second,
      ap length run,
      length-take c.args.max (leading_bytes a b (front ++ back)),
    ) in
    more.ensures.items
    ∙ ap (λ xs. xs ++ second) copied.ensures.items
    ∙ append_assoc c.args.out.now.items first second
    ∙ ap (λ xs. c.args.out.now.items ++ xs) (run ∙ take_counted c.args.max (copied.result + more.result) (leading_bytes a b (front ++ back)) count)
