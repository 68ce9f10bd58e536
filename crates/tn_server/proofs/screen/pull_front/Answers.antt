use Rattle.std.proofs.Common.{◌≤◌, ◌++◌, length, sym, ap, ◌∙◌, append-nil, arith}
use Rattle.tn_pty.specs.Runs.{leading_run}
use Rattle.tn_server.proofs.Spelling.{spelled_run}
use Rattle.tn_server.proofs.screen.pull_front.Goals as goal

pub returns-then-most-lt-FEW-clause-out : goal.returns-then-most-lt-FEW-clause-out
returns-then-most-lt-FEW-clause-out c = sym (append-nil c.args.out.now.items)

pub returns-clause-out : goal.returns-clause-out
returns-clause-out c =
    let queue = c.args.pair.now.queue in
    let run = c.pull_run in
    let within : run.result ≤ length (leading_run 13 255 queue) = omega (arith, run.ensures.count) in
    run.ensures.out ∙ ap (λ xs. c.args.out.now.items ++ xs) (sym (spelled_run run.result queue within))
