use Rattle.std.proofs.Common.{◌≡◌, ◌<◌, ◌+◌, ◌-◌, ◌*◌, true, get_or, arith, sym, ◌∙◌}
use Rattle.std.specs.Char.{is_ascii_digit}
use Rattle.tn_cli.proofs.Numbers.{number_is_beyond, beyond_digit}
use Rattle.tn_cli.proofs.scripts.number_within.Goals as goal

pub returns-then-number-from : goal.returns-then-number-from
returns-then-number-from c =
    let word = c.args.word.now in
    let i = c.loop-digit.digit-index in
    let digit : is_ascii_digit (get_or word i 0) ≡ true = sym c.is_ascii_digit.ensures.value ∙ c.if-not-is_ascii_digit.false in
    let beyond : c.args.most < c.loop-digit.number * 10 + (get_or word i 0 - 48) =
    omega (arith, c.if-number-from.true, c.from-in-loop-digit.ensures, c.from.ensures) in
    sym (number_is_beyond c.args.most word (beyond_digit c.args.most c.loop-digit.number i word c.loop-digit-test.true digit c.loop-digit.invariant.value
    beyond))
