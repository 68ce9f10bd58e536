use Rattle.std.proofs.Common.{refl, ◌∙◌, arith}
use Rattle.hex.specs.Hex.{lower_digits}
use Rattle.tn_cli.proofs.Digits.{digits_none, digits_more, digit_put}
use Rattle.tn_cli.proofs.printed.with_digits.Goals as goal

pub loop-byte-init : goal.loop-byte-init
loop-byte-init c = record { items = digits_none lower_digits c.args.out.items; len = omega arith; capacity = refl }

pub loop-byte-preserved : goal.loop-byte-preserved
loop-byte-preserved c =
    let before = c.loop-byte.invariant in
    let high = c.push_reserved.ensures in
    let low = c.push_reserved-in-loop-byte.ensures in
    record {
      items = digits_more lower_digits c.args.bytes.now c.args.out.items c.loop-byte.out.items _ _ c.loop-byte.byte-index c.loop-byte-test.true before.items
          (digit_put _ _ _ _ high.items c.pair-high.ensures.high) (digit_put _ _ _ _ low.items c.pair-high.ensures.low);
      len = omega (arith, before.len, high.len, low.len);
      capacity = low.capacity ∙ high.capacity ∙ before.capacity;
    }
