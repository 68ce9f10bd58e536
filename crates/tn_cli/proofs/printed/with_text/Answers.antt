use Rattle.std.proofs.Common.{arith}
use Rattle.hex.specs.Hex.{lower_digits}
use Rattle.tn_cli.proofs.Digits.{text_line, where_ok, digit_put}
use Rattle.tn_cli.proofs.printed.with_text.Goals as goal

pub returns-clause-items : goal.returns-clause-items
returns-clause-items c =
    let begun = c.extend_from_slice-room.ensures in
    text_line lower_digits c.args.bytes.now c.args.out.items _ _ _ _ _ c.args.last
    (where_ok _ _ _ _ (begun.succeeds (omega (arith, c.requires))) begun.items) c.with_digits-out.ensures.items
    (digit_put _ _ _ _ c.push_reserved.ensures.items c.pair-high.ensures.high)
    (digit_put _ _ _ _ c.push_reserved-2.ensures.items c.pair-high.ensures.low) c.push_reserved-3.ensures.items
