use Rattle.std.proofs.Common.{length, arith}
use Rattle.tn_pty.proofs.Marked.{leading_found}
use Rattle.tn_pty.proofs.symbols.run_len.Goals as goal

pub returns-in-Some-clause-run : goal.returns-in-Some-clause-run
returns-in-Some-clause-run c =
    let found = c.in-Some.ensures in
    let bytes = c.args.bytes.now in
    leading_found c.args.ends.0 c.args.ends.1 bytes c.in-Some.count (omega (arith, found.0.high)) found.0.before (λ _. found.1)

pub returns-in-None-clause-run : goal.returns-in-None-clause-run
returns-in-None-clause-run c =
    let bytes = c.args.bytes.now in
    leading_found c.args.ends.0 c.args.ends.1 bytes (length bytes) (omega arith) c.in-None.ensures (λ lt. absurd (omega (arith, lt)))
