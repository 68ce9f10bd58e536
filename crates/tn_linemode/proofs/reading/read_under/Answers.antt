use Rattle.std.proofs.Common.{◌≤◌, Err, length, ap, arith}
use Rattle.tn_linemode.proofs.lemmas.Listing.{says_short, list_under}
use Rattle.tn_linemode.proofs.reading.read_under.Goals as goal

pub returns-in-Ok-clause-short : goal.returns-in-Ok-clause-short
returns-in-Ok-clause-short c =
    says_short c.args.option c.as_slice.result.now c.in-Ok.payload c.in-Ok.ensures.ok
    (omega (arith, ap length c.as_slice.ensures, c.len.ensures, c.if-len-gt-MAX_PARAMETERS.false))

pub returns-in-Err-Memory-clause-list : goal.returns-in-Err-Memory-clause-list
returns-in-Err-Memory-clause-list c =
    let m = rw c.as_slice.ensures at (c.in-Err-Memory.ensures.memory (ap Err c.in-Err-Memory.field-0-is)) in
    let few : length c.args.params.now ≤ 512 = omega (arith, c.len.ensures, c.if-len-gt-MAX_PARAMETERS.false) in
    (m.0, m.1, list_under c.args.is_on c.args.option c.args.params.now m.0 c.if-not-is_on.false few m.2)
