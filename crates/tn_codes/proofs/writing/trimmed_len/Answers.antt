use Rattle.std.proofs.{Common.{◌≡◌, ◌<◌, length, take, sym, arith, ◌∙◌}, lemmas.List.take_all}
use Rattle.tn_codes.specs.Masks.{trimmed_octets}
use Rattle.tn_codes.proofs.{Trimming.{trimmed_none, trimmed_more, trimmed_more_zero}, writing.trimmed_len.Goals.{then-octet-ne0, else-octet-ne0}}
use Rattle.tn_codes.proofs.writing.trimmed_len.Goals as goal

pub loop-i-init : goal.loop-i-init
loop-i-init c = record { in_range = omega arith; so_far = trimmed_none }

pub loop-i-preserved : goal.loop-i-preserved
loop-i-preserved c =
    let i = c.loop-i.i in
    let xs = c.args.octets.now in
    let lt : i < length xs = omega arith in
    elim c.if-octet-ne0.branch [
      | then-octet-ne0 w ↦ rw w.len-is (record { in_range = omega arith; so_far = trimmed_more xs i lt w.if-octet-ne0.true })
      | else-octet-ne0 w ↦ rw w.len-is (record { in_range = omega arith; so_far = trimmed_more_zero xs i lt w.if-octet-ne0.false ∙ c.loop-i.invariant.so_far })
    ]

pub returns-clause-octets : goal.returns-clause-octets
returns-clause-octets c =
    let i = c.loop-i.i in
    let xs = c.args.octets.now in
    let all : take i xs ≡ xs = take_all i xs (omega (arith, c.told-octets)) in
    let told : trimmed_octets xs ≡ take c.loop-i.len xs = rw all at c.loop-i.invariant.so_far in
    sym told
